-- Z as the matrix of the definitions, once for both families, and its rows in the order P as the expanded block.
use mathlib.Core.Bool.{Bool}
use mathlib.Core.List.{List, []}
use mathlib.Core.Path.{◌≡◌, refl, sym, ap, ◌∙◌}
use Prim.Native.Nat.{ℕ, ◌+◌, ◌*◌, ◌-◌, ◌<◌, ◌≤◌}
use native.Mathlib.Nat.{mul-le-mul_left}
use native.Mathlib.Decide.{dec_lt}
use native.Mathlib.Omega.{arith}
use lib.ListN.{get_or}
use borrow.Author.Tests.{lt-ltb, le-ltb}
use Rattle.simd.specs.Basic.{Family, rows, table}
use Rattle.simd.specs.Constants.{order}
use Rattle.simd.specs.Expansion.{transform, pair, matrix, expanded}
use Rattle.laws.proofs.Table.{get_d_table, table_ext}
use Rattle.matrix_words.specs.Layers.{flat}
use Rattle.matrix.specs.Rows.{row}
use Rattle.matrix.proofs.Rows.{order_lt}

-- Word j of row i is word R i + j.
module _ (r i j : ℕ) (inside : j < r) where
  before : (n : ℕ) → i < n → r * i + j < r * n
  before n below = omega (arith, mul-le-mul_left r below)

  split : (n : ℕ) → n ≤ i → r * i ≡ r * n + r * (i - n)
  split n past = let e : i ≡ n + (i - n) = omega arith in omega (arith, ap (λ v. r * v) e)

same_pair : (c : ℕ) (y : ℕ → ℕ) {a b d e : ℕ} → a ≡ d → b ≡ e → pair c (y a) (y b) ≡ pair c (y d) (y e)
same_pair c y p q t = pair c (y (p t)) (y (q t))

matrix_flat : (f : Family) (y : ℕ → ℕ) (i j : ℕ) → j < rows f → matrix f y i j ≡ flat (8 * rows f) y (rows f * i + j)
unfolding matrix flat
matrix_flat f y i j inside = by (dec_lt i 16) (dec_lt i 24)
  where
    by : Dec (i < 16) → Dec (i < 24) → matrix f y i j ≡ flat (8 * rows f) y (rows f * i + j)
    by (yes low) any =
        rw (lt-ltb i 16 low, lt-ltb (rows f * i + j) (2 * (8 * rows f)) (omega (arith, before (rows f) i j inside 16 low)))
        (same_pair 185 y (omega arith) (omega arith))
    by (no past) (yes mid) =
        let from = split (rows f) i j inside 16 (omega arith) in
        rw (
          le-ltb i 16 (omega arith),
          lt-ltb i 24 mid,
          le-ltb (rows f * i + j) (2 * (8 * rows f)) (omega arith),
          lt-ltb (rows f * i + j) (3 * (8 * rows f)) (omega (arith, before (rows f) i j inside 24 mid)),
        )
        (same_pair 233 y (omega arith) (omega arith))
    by (no past) (no high) =
        let from = split (rows f) i j inside 24 (omega arith) in
        rw (
          le-ltb i 16 (omega arith),
          le-ltb i 24 (omega arith),
          le-ltb (rows f * i + j) (2 * (8 * rows f)) (omega arith),
          le-ltb (rows f * i + j) (3 * (8 * rows f)) (omega arith),
        )
        (same_pair 233 y (omega arith) (omega arith))

-- Z reads the values at 32 R places only.
flat_ext : (q : ℕ) (y z : ℕ → ℕ) → ((k : ℕ) → k < 4 * q → y k ≡ z k) → (k : ℕ) → k < 4 * q → flat q y k ≡ flat q z k
unfolding flat
flat_ext q y z same k below = by (dec_lt k (2 * q)) (dec_lt k (3 * q))
  where
    by : Dec (k < 2 * q) → Dec (k < 3 * q) → flat q y k ≡ flat q z k
    by (yes low) any =
        rw (lt-ltb k (2 * q) low) (λ t. pair 185 (same (2 * k) (omega arith) t) (same (2 * k + 1) (omega arith) t))
    by (no past) (yes mid) =
        rw (le-ltb k (2 * q) (omega arith), lt-ltb k (3 * q) mid)
        (λ t. pair 233 (same (2 * (k - 2 * q)) (omega arith) t) (same (2 * (k - 2 * q) + 2 * q) (omega arith) t))
    by (no past) (no high) =
        rw (le-ltb k (2 * q) (omega arith), le-ltb k (3 * q) (omega arith))
        (λ t. pair 233 (same (2 * (k - 3 * q) + 1) (omega arith) t) (same (2 * (k - 3 * q) + 1 + 2 * q) (omega arith) t))

place : (f : Family) (i j : ℕ) → i < 32 → j < rows f → rows f * i + j < 4 * (8 * rows f)
place f i j below inside = omega (arith, before (rows f) i j inside 32 below)

-- The words of Z, cut into rows, are the matrix.
pub matrix_of : (f : Family) (y : ℕ → ℕ) {w : List ℕ} {z : List (List ℕ)}
    → w ≡ table (4 * (8 * rows f)) (flat (8 * rows f) y) → z ≡ table 32 (row (rows f) w) → z ≡ table 32 (λ i. table (rows f) (matrix f y i))
unfolding row
matrix_of f y {w} words rows_of_lem =
    rows_of_lem
    ∙ table_ext 32 (row (rows f) w) (λ i. table (rows f) (matrix f y i))
    (λ i below.
    table_ext (rows f) (λ j. get_or w (rows f * i + j) 0) (matrix f y i)
    (λ j inside.
    ap (λ l. get_or l (rows f * i + j) 0) words
    ∙ get_d_table (4 * (8 * rows f)) (flat (8 * rows f) y) (rows f * i + j) 0 (place f i j below inside)
    ∙ sym (matrix_flat f y i j inside)))

-- The matrix reads the transform only, and its rows in the order P are the expanded block.
pub expanded_of : (f : Family) (last : Bool) (b : List ℕ) {ys : List ℕ} {z e : List (List ℕ)}
    → ys ≡ table (4 * (8 * rows f)) (transform f last b) → z ≡ table 32 (λ i. table (rows f) (matrix f (λ k. get_or ys k 0) i))
    → e ≡ table 32 (λ i. get_or z (get_or order i 0) []) → e ≡ expanded f last b
unfolding expanded
expanded_of f last b {ys} {z} values rows_of_lem all =
    all
    ∙ table_ext 32 (λ i. get_or z (get_or order i 0) []) (λ i. table (rows f) (matrix f (transform f last b) (get_or order i 0)))
    (λ i below.
    let p = get_or order i 0 in
    let p_lt = order_lt i refl below in
    ap (λ l. get_or l p []) rows_of_lem
    ∙ get_d_table 32 (λ i. table (rows f) (matrix f (λ k. get_or ys k 0) i)) p [] p_lt
    ∙ table_ext (rows f) (matrix f (λ k. get_or ys k 0) p) (matrix f (transform f last b) p)
    (λ j inside.
    matrix_flat f (λ k. get_or ys k 0) p j inside
    ∙ flat_ext (8 * rows f) (λ k. get_or ys k 0) (transform f last b)
    (λ k low. ap (λ l. get_or l k 0) values ∙ get_d_table (4 * (8 * rows f)) (transform f last b) k 0 low)
    (rows f * p + j) (place f p j p_lt inside)
    ∙ sym (matrix_flat f (transform f last b) p j inside)))
