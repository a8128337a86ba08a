-- The or of the xors passed is 0 exactly where the bytes passed are equal.
use Rattle.std.proofs.Common.{length}
use Rattle.constant_time.proofs.Seen.{Seen}
use Rattle.constant_time.proofs.same_block.Given as goal

abbrev pub invariant-loop-a : goal.invariant-loop-a
invariant-loop-a l = Seen l.x l.y (length l.yielded) l.seen
