-- Numbers of blocks that a correction skips, and places of states in an index.
use mathlib.Core.Path.{◌≡◌}
use Prim.Native.Nat.{ℕ, ◌*◌, ◌-◌, ◌/◌, ◌≤◌}
use native.Mathlib.Omega.{arith}
use Rattle.simd.specs.Basic.{Family, block_bytes, block_bits}
use Rattle.simd.specs.Hash.{compressions}
use Rattle.checkpoints.specs.Index.{kept, starts_at, skipped, corrected_compressions}
use Rattle.checkpoints.proofs.Counts.{starts_within}
use Rattle.kept_states.proofs.Counts.{more_bytes, less_bytes}

-- The blocks that a correction skips are full, and are not compressed.
pub skipped_full : (f : Family) (n b : ℕ) → 16 * starts_at f n b ≤ n / block_bits f
unfolding starts_at kept
skipped_full f n b = omega arith

pub counted : (f : Family) (n b : ℕ) {i r : ℕ} → i ≡ starts_at f n b → r ≡ compressions f n - 16 * i → r ≡ corrected_compressions f n b
unfolding corrected_compressions skipped
counted f n b placed same = rw placed at same

-- The bytes of the states before state i, and of those from it on.
module _ (f : Family) {size i : ℕ} (n b : ℕ) (sized : size ≡ block_bytes f) (placed : i ≡ starts_at f n b) where
  pub states_before : size * i ≤ block_bytes f * kept f n
  states_before = rw (sized, placed) (more_bytes f (starts_at f n b) (kept f n) (starts_within f n b))

  pub states_behind : block_bytes f * kept f n - size * i ≡ block_bytes f * (kept f n - i)
  states_behind = rw sized (less_bytes f (kept f n) i)
