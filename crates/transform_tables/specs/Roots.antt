-- The table of roots that the transform reads.
use Rattle.std.specs.Prelude.{cond, List, ◌≡◌, ℕ, zero, suc, ◌+◌, ◌*◌, ◌-◌, ◌≤◌, ◌<◌, leb, length, get_or}
use Rattle.simd.specs.Expansion.{power}

-- The table of roots: a row of the powers of each root of order 2, 4, .., 256. The row of order 2 l starts at entry l and has the
-- powers 0 to l - 1, so the last row has the first 128 powers of 41, and each other row has every second entry of the next.
-- From entry 256 on, each entry stands again, multiplied by 255. Entry 0 is the modulus, entry 256 is not used.
pub record Roots (t : List ℕ) : Type 0 where
  pub size : length t ≡ 512
  pub modulus : get_or t 0 0 ≡ 257
  pub last_row : (k : ℕ) → k < 128 → get_or t (128 + k) 0 ≡ power 41 k
  pub each_row : (i : ℕ) → 0 < i → i < 128 → get_or t i 0 ≡ get_or t (2 * i) 0
  pub below : (i : ℕ) → 0 < i → i < 256 → get_or t i 0 < 257
  pub scaled : (i : ℕ) → 0 < i → i < 256 → get_or t (256 + i) 0 ≡ 255 * get_or t i 0

-- The exponent of 41 at entry i: at the last row i - 128, else that of entry 2 i. There are at most so many rows after that of the entry.
unfoldable pub exponent : ℕ → ℕ → ℕ
exponent zero i = i - 128
exponent (suc rows) i = cond (leb 128 i) (i - 128) (exponent rows (2 * i))

-- While the table is made: what holds of it from entry i on.
pub record Begun (t : List ℕ) (i : ℕ) : Type 0 where
  pub size : length t ≡ 512
  pub entry : (j : ℕ) → i ≤ j → j < 256 → get_or t j 0 ≡ power 41 (exponent 7 j)
  pub scaled : (j : ℕ) → i ≤ j → j < 256 → get_or t (256 + j) 0 ≡ 255 * power 41 (exponent 7 j)
