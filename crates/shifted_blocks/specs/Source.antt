-- What is asked of a source whose bytes are shifted, and what compressing it leaves.
use Rattle.std.specs.Prelude.{List, ◌≡◌, ℕ, ◌+◌, ◌-◌, ◌/◌, ◌%◌, ◌≤◌, length, take}
use Rattle.simd.specs.Basic.{family_of, block_bytes, state_words, table}
use Rattle.iteration.specs.Blocks.{absorbed}
use Rattle.bits.specs.Zero.{padded}
use Rattle.bits.specs.Shift.{carry_at, shifted}

-- After the whole blocks of a source: the state in 32 words, and the carry behind them.
pub record Absorbed (width : ℕ) (state : List ℕ) (scale carry : ℕ) (src state' : List ℕ) (held : ℕ) : Type 0 where
  pub came : state' ≡ padded 32 (absorbed (family_of width) (take (state_words (family_of width)) state)
      (table (length src) (shifted scale carry src)) (length src / block_bytes (family_of width)))
  pub carried : held ≡ carry_at scale carry src (length src)

-- A source that completes the block of a tail: `at` bytes of it are there, and full blocks go on to `whole` bytes.
pub record Completing (width size : ℕ) (state tail : List ℕ) (at scale : ℕ) (src : List ℕ) (whole : ℕ) : Type 0 where
  pub block : size ≡ block_bytes (family_of width)
  pub words : state ≡ padded 32 (take (state_words (family_of width)) state)
  pub bytes : length tail ≡ 128
  pub scaled : scale ≤ 256
  pub started : at ≤ size
  pub blocks : (whole - size) % block_bytes (family_of width) ≡ 0
  pub first : size ≤ whole
  pub within : whole ≤ at + length src
  pub rest : at + length src ≤ whole + 128
