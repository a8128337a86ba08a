-- Places of blocks and of kept states among all of them, for each family.
use mathlib.Core.Path.{◌≡◌, refl}
use Prim.Native.Nat.{ℕ, ◌+◌, ◌*◌, ◌-◌, ◌/◌, ◌%◌, ◌<◌, ◌≤◌}
use native.Mathlib.Omega.{arith}
use Rattle.simd.specs.Basic.{Family, small, large, block_bytes, block_bits}
use Rattle.simd.specs.Message.{message_blocks}
use Rattle.checkpoints.specs.Index.{kept}

-- Bytes of whole blocks.
pub more_bytes : (f : Family) (a b : ℕ) → a ≤ b → block_bytes f * a ≤ block_bytes f * b
more_bytes small a b below = omega arith
more_bytes large a b below = omega arith

pub less_bytes : (f : Family) (a b : ℕ) → block_bytes f * a - block_bytes f * b ≡ block_bytes f * (a - b)
less_bytes small a b = omega arith
less_bytes large a b = omega arith

pub whole_bytes : (f : Family) (n : ℕ) → block_bytes f * n / block_bytes f ≡ n
whole_bytes small n = omega arith
whole_bytes large n = omega arith

pub whole_part : (f : Family) (n : ℕ) → block_bytes f * n % block_bytes f ≡ 0
whole_part small n = omega arith
whole_part large n = omega arith

pub whole_words : (f : Family) → block_bytes f % 4 ≡ 0
whole_words small = refl
whole_words large = refl

-- A state that is kept lies within the bytes of all of them, and the blocks up to the next within those of all blocks. The code has worked out the
-- size of a block.
room : (f : Family) (k full : ℕ) → 16 * k < full → block_bytes f * k + block_bytes f ≤ block_bytes f * ((full + 15) / 16)
room small k full below = omega arith
room large k full below = omega arith

module _ (f : Family) {size : ℕ} (sized : size ≡ block_bytes f) where
  pub state_within : (k full : ℕ) → 16 * k < full → size * k + size ≤ block_bytes f * ((full + 15) / 16)
  state_within k full below = rw sized (room f k full below)

  pub blocks_within : (k n full : ℕ) → k + n ≤ full → size * k + size * n ≤ block_bytes f * full
  blocks_within k n full below = rw sized (omega (arith, more_bytes f (k + n) full below))

-- The blocks before a kept state, in bits.
pub before_state : (f : Family) (j full : ℕ) → j < (full + 15) / 16 → block_bits f * (16 * j) ≤ 8 * (block_bytes f * full)
before_state small j full below = omega arith
before_state large j full below = omega arith

-- Numbers of blocks are small beside their bytes.
pub few_blocks : (f : Family) (n : ℕ) → 64 * n ≤ block_bytes f * n
few_blocks small n = omega arith
few_blocks large n = omega arith

-- A run from kept state i on: the bits before it, the bytes of the full blocks behind, and the numbers of states and blocks from there on.
module _ (n i : ℕ) where
  pub bits_before : (f : Family) → 16 * i ≤ n / block_bits f → 8 * (block_bytes f * (16 * i)) ≤ n
  bits_before small started = omega arith
  bits_before large started = omega arith

  pub bits_left : (f : Family) → 8 * (block_bytes f * (n / block_bits f)) ≤ n
  bits_left small = omega arith
  bits_left large = omega arith

  pub bytes_behind : (f : Family) → block_bytes f * (n / block_bits f) - block_bytes f * (16 * i) ≡ block_bytes f * (n / block_bits f - 16 * i)
  bytes_behind f = less_bytes f (n / block_bits f) (16 * i)

  pub kept_behind : (f : Family) → (n / block_bits f - 16 * i + 15) / 16 ≡ kept f n - i
  unfolding kept
  kept_behind f = omega arith

  pub blocks_behind : (f : Family) → 16 * i ≤ n / block_bits f → message_blocks f (n - 8 * (block_bytes f * (16 * i))) ≡ message_blocks f n - 16 * i
  unfolding message_blocks
  blocks_behind small started = omega arith
  blocks_behind large started = omega arith

  -- The same with the numbers that the code has worked out.
  module _ (f : Family) {size full : ℕ} (sized : size ≡ block_bytes f) (counted : full ≡ n / block_bits f) where
    pub full_within : 8 * (size * full) ≤ n
    full_within = rw (sized, counted) (bits_left f)

    pub skipped_within : 16 * i ≤ full → size * (16 * i) ≤ size * full
    skipped_within started = rw sized (more_bytes f (16 * i) full started)

    pub part_bytes : size * full - size * (16 * i) ≡ block_bytes f * (full - 16 * i)
    part_bytes = rw (sized, counted) (bytes_behind f)
