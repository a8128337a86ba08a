-- The definition, from the full blocks.
use mathlib.Core.Path.{ap}
use Prim.Native.Nat.{ℕ, ◌+◌, ◌/◌}
use native.Mathlib.Omega.{arith}
use Rattle.simd.specs.Basic.{family_of}
use Rattle.checkpoints.specs.Index.{kept}
use Rattle.kept_counts.proofs.Counts.{full_fits}
use Rattle.kept_counts.proofs.kept.Goals as goal

pub overflow_add-result : goal.overflow_add-result
overflow_add-result c =
    let a = c.args in
    omega (arith, c.full_blocks.ensures, full_fits (family_of a.width) a.count)

pub returns : goal.returns
unfolding kept
returns c = ap (λ (n : ℕ). (n + 15) / 16) c.full_blocks.ensures
