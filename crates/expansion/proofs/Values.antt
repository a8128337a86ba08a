-- What the parts of an expansion ask of each other: values below 257, and 32 rows of R words.
use mathlib.Core.Bool.{Bool}
use mathlib.Core.List.{List, []}
use mathlib.Core.Path.{◌≡◌, ap, ◌∙◌}
use Prim.Native.Nat.{ℕ, ◌<◌}
use native.Mathlib.Decide.{dec_lt}
use native.Mathlib.Omega.{arith}
use lib.ListN.{length, get_or, get_or-eq_default}
use Rattle.simd.specs.Basic.{Family, rows, table}
use Rattle.simd.specs.Constants.{order}
use Rattle.simd.specs.Expansion.{transform, matrix, expanded}
use Rattle.laws.proofs.Table.{length_table, get_d_table}
use Rattle.expansion.specs.Output.{IsRows}

transform_lt : (f : Family) (last : Bool) (b : List ℕ) (k : ℕ) → transform f last b k < 257
unfolding transform
transform_lt f last b k = omega arith

pub values_lt : (n : ℕ) (f : Family) (last : Bool) (b : List ℕ) {ys : List ℕ} → ys ≡ table n (transform f last b) → (k : ℕ) → get_or ys k 0 < 257
values_lt n f last b {ys} values k = by (dec_lt k n)
  where
    by : Dec (k < n) → get_or ys k 0 < 257
    by (yes inside) = rw (values, get_d_table n (transform f last b) k 0 inside) (transform_lt f last b k)
    by (no past) =
        rw (get_or-eq_default ys 0 {n = k} (omega (arith, ap length values, length_table n (transform f last b)))) (omega arith)

-- What the matrix asks of the values.
pub as_values : (n : ℕ) (f : Family) (last : Bool) (b : List ℕ) {ys : List ℕ} → ys ≡ table n (transform f last b)
    → (length ys ≡ n) × ((k : ℕ) → get_or ys k 0 < 257)
as_values n f last b values = (ap length values ∙ length_table n (transform f last b), values_lt n f last b values)

pub is_rows : (f : Family) (last : Bool) (b : List ℕ) {e : List (List ℕ)} → e ≡ expanded f last b → IsRows (rows f) e
unfolding expanded
is_rows f last b all =
    let row : ℕ → List ℕ = λ i. table (rows f) (matrix f (transform f last b) (get_or order i 0)) in
    record {
      count = ap length all ∙ length_table 32 row;
      width =
          λ k below.
          ap (λ l. length (get_or l k [])) all ∙ ap length (get_d_table 32 row k [] below)
          ∙ length_table (rows f) (matrix f (transform f last b) (get_or order k 0));
    }
