-- Sizes of an index and of the states in it, for each family.
use mathlib.Core.Path.{◌≡◌}
use Prim.Native.Nat.{ℕ, ◌+◌, ◌*◌, ◌<◌, ◌≤◌}
use native.Mathlib.Omega.{arith}
use Rattle.simd.specs.Basic.{Family, small, large, block_bytes}
use Rattle.checkpoints.specs.Index.{kept, starts_at}
use Rattle.checkpoints.proofs.Counts.{starts_below}

small_beside : (f : Family) (n : ℕ) → 8 * (block_bytes f * kept f n) ≤ n
unfolding kept
small_beside small n = omega arith
small_beside large n = omega arith

-- The states of an index are at most as many bytes as the message.
pub states_small : (f : Family) {size number n : ℕ} → size ≡ block_bytes f → number ≡ kept f n → 8 * (size * number) ≤ n
states_small f {n = n} sized counted = rw (sized, counted) (small_beside f n)

state_inside : (f : Family) (i k : ℕ) → i < k → block_bytes f * i + block_bytes f ≤ block_bytes f * k
state_inside small i k below = omega arith
state_inside large i k below = omega arith

-- The state that a correction starts at lies within the states, where there is one.
pub start_within : (f : Family) {size i : ℕ} (n b : ℕ) → size ≡ block_bytes f → i ≡ starts_at f n b → (kept f n ≡ 0 → ⊥)
    → size * i + size ≤ block_bytes f * kept f n
start_within f n b sized placed some = rw (sized, placed) (state_inside f (starts_at f n b) (kept f n) (starts_below f n b some))
