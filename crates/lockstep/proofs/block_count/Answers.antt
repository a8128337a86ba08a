-- The full blocks, and one more where bits are left; the size of a block is the one of the width, on either side of 256.
use mathlib.Core.Path.{sym}
use borrow.Author.Tests.{le-leb, lt-leb}
use Rattle.simd.specs.Basic.{small, large}
use Rattle.simd.specs.Message.{message_blocks}
use Rattle.laws.proofs.Chain.{blocks_split}
use Rattle.lockstep.proofs.block_count.Goals as goal

pub returns-then-width-le256 : goal.returns-then-width-le256
unfolding message_blocks
returns-then-width-le256 c =
    let p = c.args in
    rw (le-leb p.width 256 c.if-width-le256.true) (sym (blocks_split small p.count))

pub returns-else-width-le256 : goal.returns-else-width-le256
unfolding message_blocks
returns-else-width-le256 c =
    let p = c.args in
    rw (lt-leb p.width 256 c.if-width-le256.false) (sym (blocks_split large p.count))
