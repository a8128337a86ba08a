-- Part by part, all places take the numbers of both halves.
use Rattle.std.proofs.Common.{◌≡◌, ◌-◌, ◌*◌, ◌%◌, ◌≤◌, length}
use Rattle.transform_stages.specs.Stage.{Shuffled}
use Rattle.transform_stages.proofs.shuffle.Given as goal

abbrev pub invariant-loop-at : goal.invariant-loop-at
invariant-loop-at l = (l.at % 64 ≡ 0) × (l.at ≤ l.half) × (length l.y ≡ 2 * l.half) × Shuffled l.half l.at l.x l.y

abbrev pub decreases-loop-at : goal.decreases-loop-at
decreases-loop-at l = l.half - l.at
