-- Part by part, the output takes all remainders.
use Rattle.std.proofs.Common.{◌≡◌, ◌-◌, ◌%◌, ◌≤◌, length}
use Rattle.transform_stages.specs.Stage.{Begun}
use Rattle.transform_stages.proofs.finish.Given as goal

abbrev pub invariant-loop-at : goal.invariant-loop-at
invariant-loop-at l = (l.at % 128 ≡ 0) × (l.at ≤ l.n) × (length l.out ≡ l.n) × Begun l.at l.x l.out

abbrev pub decreases-loop-at : goal.decreases-loop-at
decreases-loop-at l = l.n - l.at
