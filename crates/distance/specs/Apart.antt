-- What it means that two expanded blocks are so many bits apart, and the least number of bits that is promised.
use Rattle.std.specs.Prelude.{cond, List, [], ◌≡◌, ℕ, ◌/◌, ◌%◌, ◌^◌, ◌<◌, eqb, length, get_or}
use Rattle.simd.specs.Basic.{Family, small, large, rows, block_bytes, sum}

-- A block of the family: 16 R bytes.
pub record Block (f : Family) (b : List ℕ) : Type 0 where
  pub size : length b ≡ block_bytes f
  pub bytes : (j : ℕ) → j < block_bytes f → get_or b j 0 < 256

-- 1 where two numbers differ, and 0 where they are equal.
unfoldable pub differ : ℕ → ℕ → ℕ
differ x y = cond (eqb x y) 0 1

-- The number of places, among the n lowest bits of x and y, where the bits differ.
unfoldable pub apart : ℕ → ℕ → ℕ → ℕ
apart n x y = sum n (λ t. differ (x / 2 ^ t % 2) (y / 2 ^ t % 2))

-- The same for two expanded blocks, of 32 rows of R words of 32 bits: 4,096 (small) or 8,192 (large) places.
unfoldable pub bits_apart : Family → List (List ℕ) → List (List ℕ) → ℕ
bits_apart f v w = sum 32 (λ i. sum (rows f) (λ j. apart 32 (get_or (get_or v i []) j 0) (get_or (get_or w i []) j 0)))

-- The bits that the expansions of two different blocks are apart at least.
abbrev pub least_apart : Family → ℕ
least_apart small = 520
least_apart large = 1032
