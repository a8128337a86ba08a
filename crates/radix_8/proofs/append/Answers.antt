-- Each branch leaves the ends of its kind of block.
use Rattle.radix_8.proofs.Ends.{message_ends, length_ends}
use Rattle.radix_8.proofs.append.Goals as goal

pub returns-then-last : goal.returns-then-last
returns-then-last c =
    rw c.if-last.true (length_ends c.args.ends.now c.args.m c.requires)

pub returns-else-last : goal.returns-else-last
returns-else-last c =
    rw c.if-last.false (message_ends c.args.ends.now c.args.m c.requires)
