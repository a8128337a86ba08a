-- The layers of the expansion, in which the proof counts. The promise does not rest on these names: `expanded` has them spelled out.
use Rattle.std.specs.Prelude.{List, ℕ, get_or}
use Rattle.simd.specs.Basic.{Family, rows, points, table, sum}
use Rattle.simd.specs.Constants.{order}
use Rattle.simd.specs.Expansion.{matrix}
use Rattle.distance.specs.Apart.{differ}

-- The number of points, among the 32 R of the transform, where the values y and z differ.
unfoldable pub points_apart : Family → (ℕ → ℕ) → (ℕ → ℕ) → ℕ
points_apart f y z = sum (points f) (λ i. differ (y i) (z i))

-- The multipliers of the inner codes: of rows 0 to 15 of Z, and of rows 16 to 31.
abbrev pub first_code : ℕ
first_code = 185

abbrev pub second_code : ℕ
second_code = 233

-- P(i): the row of Z that is row i of an expanded block.
unfoldable pub row_of_z : ℕ → ℕ
row_of_z i = get_or order i 0

-- The expanded block that the 32 R values y of a transform give: `expanded` of a block is that of the block's transform.
unfoldable pub expanded_from : Family → (ℕ → ℕ) → List (List ℕ)
expanded_from f y = table 32 (λ i. table (rows f) (matrix f y (row_of_z i)))
