-- Where a correction starts, in kept states and in blocks, and the bytes of states.
use mathlib.Core.Path.{◌≡◌}
use Prim.Native.Nat.{ℕ, ◌+◌, ◌*◌, ◌-◌, ◌<◌, ◌≤◌}
use native.Mathlib.Omega.{arith}
use Rattle.simd.specs.Basic.{Family, small, large, block_bytes}
use Rattle.simd.specs.Message.{message_blocks}
use Rattle.checkpoints.specs.Index.{spacing, kept, starts_at}

module _ (f : Family) (n b : ℕ) where
  pub starts_before : spacing * starts_at f n b ≤ b
  unfolding starts_at
  starts_before = omega arith

  pub starts_within : starts_at f n b ≤ kept f n
  unfolding starts_at
  starts_within = omega arith

  pub starts_below : (kept f n ≡ 0 → ⊥) → starts_at f n b < kept f n
  unfolding starts_at
  starts_below some = omega arith

  -- Where no state is kept it starts at the first block.
  pub starts_first : kept f n ≡ 0 → starts_at f n b ≡ 0
  unfolding starts_at
  starts_first none = omega arith

-- The block that it starts at is full, or there is none and it is the first: in either case it is not behind the length block.
pub starts_in_blocks : (f : Family) (n b : ℕ) → spacing * starts_at f n b ≤ message_blocks f n
unfolding starts_at kept message_blocks
starts_in_blocks small n b = omega arith
starts_in_blocks large n b = omega arith

-- The bytes of the states before state i, and of those from it on.
pub bytes_split : (f : Family) (i k : ℕ) → i ≤ k → block_bytes f * i + block_bytes f * (k - i) ≡ block_bytes f * k
bytes_split small i k within = omega arith
bytes_split large i k within = omega arith
