use borrow.Author.Tests.{le-leb, lt-leb}
use Rattle.tail.proofs.used_bits.Goals as goal

pub returns-then-width-le256 : goal.returns-then-width-le256
returns-then-width-le256 c = rw (le-leb c.args.width 256 c.if-width-le256.true)

pub returns-else-width-le256 : goal.returns-else-width-le256
returns-else-width-le256 c = rw (lt-leb c.args.width 256 c.if-width-le256.false)
