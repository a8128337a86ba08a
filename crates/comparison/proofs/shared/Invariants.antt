-- The loop's invariant: the blocks passed are full and equal in both.
use Prim.Native.Nat.{◌-◌, ◌≤◌}
use Rattle.simd.specs.Basic.{family_of}
use Rattle.comparison.specs.Shared.{Shared}
use Rattle.comparison.proofs.shared.Given as goal

abbrev pub invariant-loop-at : goal.invariant-loop-at
invariant-loop-at l = (l.at ≤ l.end) × Shared (family_of l.width) l.x l.y l.at

abbrev pub decreases-loop-at : goal.decreases-loop-at
decreases-loop-at l = l.end - l.at
