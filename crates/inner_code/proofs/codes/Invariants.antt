-- Part by part, both strings of codes are filled.
use mathlib.Core.Path.{◌≡◌}
use Prim.Native.Nat.{◌-◌, ◌%◌, ◌≤◌}
use lib.ListN.{length}
use Rattle.inner_code.specs.Codes.{Begun}
use Rattle.inner_code.proofs.codes.Given as goal

abbrev pub invariant-loop-at : goal.invariant-loop-at
invariant-loop-at l = (l.at % 128 ≡ 0) × (l.at ≤ length l.y) × Begun 185 l.y l.at l.by185 × Begun 233 l.y l.at l.by233

abbrev pub decreases-loop-at : goal.decreases-loop-at
decreases-loop-at l = length l.y - l.at
