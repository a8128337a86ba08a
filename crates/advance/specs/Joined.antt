-- The bits of a tail with those of a piece behind them.
use Rattle.std.specs.Prelude.{true, List, ◌++◌, ◌≡◌, ℕ, ◌+◌, ◌*◌, ◌/◌, ◌^◌, ◌<◌, length, take, drop}
use Rattle.simd.specs.Basic.{family_of, block_bits, state_words, table}
use Rattle.simd.specs.Message.{byte_of, message}
use Rattle.simd.specs.Hash.{chain}
use Rattle.bits.specs.Zero.{all_zero, clear, padded}

unfoldable pub joined_bits : ℕ → List ℕ → List ℕ → ℕ → List ℕ
joined_bits used tail src count = message tail used ++ message src count

-- What feeding asks of the parts of a hash and of a piece, which is cut to the bytes used.
pub record Ready (width used : ℕ) (state tail src : List ℕ) (count : ℕ) : Type 0 where
  pub words : length state ≡ 32
  pub bytes : length tail ≡ 128
  pub below : used < block_bits (family_of width)
  pub state_clear : all_zero (drop (state_words (family_of width)) state) ≡ true
  pub tail_clear : clear used tail ≡ true
  pub source : length src ≡ (count + 7) / 8
  pub short : used + count < 2 ^ 64

-- Fed n bits of a piece, which make k blocks full: the state after these, the tail that is left, and their number.
pub record Joins (width used : ℕ) (state tail src : List ℕ) (n k : ℕ) (state' tail' : List ℕ) (r : ℕ) : Type 0 where
  pub compressed : state' ≡ padded 32 (chain (family_of width) (take (state_words (family_of width)) state) (joined_bits used tail src n) k)
  pub left : tail' ≡ table 128 (byte_of (drop (block_bits (family_of width) * k) (joined_bits used tail src n)))
  pub number : r ≡ k
