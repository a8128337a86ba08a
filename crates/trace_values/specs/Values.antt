-- The values between a block and its expanded rows.
use Rattle.std.specs.Prelude.{Bool, ℕ, get_or}
use mathlib.Core.List.{List, flatten}
use Rattle.simd.specs.Basic.{Family, points, rows, table}
use Rattle.simd.specs.Expansion.{transform, matrix}

-- The 32 R values of the transform, and the words of Z that they give, row by row.
unfoldable pub values : Family → Bool → List ℕ → List ℕ
values f last block = table (points f) (transform f last block)

unfoldable pub matrix_rows : Family → Bool → List ℕ → List (List ℕ)
matrix_rows f last block = table 32 (λ i. table (rows f) (matrix f (λ k. get_or (values f last block) k 0) i))

unfoldable pub matrix_words : Family → Bool → List ℕ → List ℕ
matrix_words f last block = flatten (matrix_rows f last block)
