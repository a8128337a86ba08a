-- Part by part, all butterflies of the stage.
use Rattle.std.proofs.Common.{◌≡◌, ◌-◌, ◌*◌, ◌%◌, ◌≤◌, length}
use Rattle.transform_stages.specs.Stage.{Crossed}
use Rattle.transform_stages.proofs.rows.Given as goal

abbrev pub invariant-loop-at : goal.invariant-loop-at
invariant-loop-at l = (l.at % 64 ≡ 0) × (l.at ≤ l.half) × (length l.y ≡ 2 * l.half) × Crossed l.l l.half l.at l.x l.t l.y

abbrev pub decreases-loop-at : goal.decreases-loop-at
decreases-loop-at l = l.half - l.at
