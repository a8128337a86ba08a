-- Turn by turn, the output takes the remainder.
use Rattle.std.proofs.Common.{◌≡◌, ◌+◌, length}
use Rattle.transform_stages.specs.Stage.{Begun}
use Rattle.transform_stages.proofs.more_finished.Given as goal

abbrev pub invariant-loop-k : goal.invariant-loop-k
invariant-loop-k l = (length l.out ≡ length l.x) × Begun (l.at + l.k) l.x l.out
