-- Each value of the transform stands in Z, and so in the expanded block, once under each of the two codes.
use mathlib.Core.List.{[]}
use mathlib.Core.Path.{◌≡◌, sym, ap, ap₂, ◌∙◌}
use Prim.Native.Nat.{ℕ, ◌+◌, ◌*◌, ◌<◌}
use native.Mathlib.Nat.{add_assoc, add_comm, add-sub_cancel_left}
use native.Mathlib.Omega.{arith}
use lib.ListN.{get_or}
use borrow.Author.Tests.{lt-ltb, le-ltb}
use Rattle.simd.specs.Basic.{Family, rows, points, table, sum}
use Rattle.simd.specs.Constants.{order}
use Rattle.simd.specs.Expansion.{code, pair, matrix}
use Rattle.laws.proofs.Table.{get_d_table}
use Rattle.laws.proofs.Sum.{sum_ext, sum_plus, sum_append}
use Rattle.laws.proofs.Regroup.{sum_blocks, sum_pairs}
use Rattle.distance.specs.Apart.{apart, bits_apart}
use Rattle.distance.specs.Layers.{row_of_z, expanded_from, first_code, second_code}
use Rattle.distance.proofs.Codes.{pair_apart}

-- Each row of Z is one row of the expanded block.
reorder : (g : ℕ → ℕ) → sum 32 (λ i. g (row_of_z i)) ≡ sum 32 g
unfolding sum row_of_z order
reorder g = omega arith

-- Values taken by twos, in m rows of r pairs.
by_rows : (m r : ℕ) (g : ℕ → ℕ) → sum m (λ i. sum r (λ j. g (2 * r * i + 2 * j) + g (2 * r * i + 2 * j + 1))) ≡ sum (2 * r * m) g
by_rows m r g =
    sum_ext m _ _
    (λ i below.
    sum_ext r _ _ (λ j below. ap (λ k. g (2 * r * i + 2 * j) + g k) (add_assoc (2 * r * i) (2 * j) 1)) ∙ sum_pairs r (λ k. g (2 * r * i + k)))
    ∙ sum_blocks m (2 * r) g

-- Even values and then odd ones, each with the value 16 r places later, in 8 rows of r pairs each.
by_halves : (r : ℕ) (g : ℕ → ℕ)
    → sum 8 (λ i. sum r (λ j. g (2 * r * i + 2 * j) + g (2 * r * i + 2 * j + 16 * r)))
    + sum 8 (λ i. sum r (λ j. g (2 * r * i + 2 * j + 1) + g (2 * r * i + 2 * j + 1 + 16 * r)))
    ≡ sum (32 * r) g
by_halves r g =
    let two : ℕ → ℕ = λ k. g k + g (k + 16 * r) in
    sym (sum_plus 8 (λ i. sum r (λ j. two (2 * r * i + 2 * j))) (λ i. sum r (λ j. two (2 * r * i + 2 * j + 1))))
    ∙ sum_ext 8 _ _ (λ i below. sym (sum_plus r (λ j. two (2 * r * i + 2 * j)) (λ j. two (2 * r * i + 2 * j + 1))))
    ∙ by_rows 8 r two
    ∙ ap (λ n. sum n two) (omega arith)
    ∙ sum_plus (16 * r) g (λ k. g (k + 16 * r))
    ∙ ap (λ v. sum (16 * r) g + v) (sum_ext (16 * r) _ _ (λ k below. ap g (add_comm k (16 * r))))
    ∙ sym (sum_append (16 * r) (16 * r) g)
    ∙ ap (λ n. sum n g) (omega arith)

-- The words of the three parts of Z: rows 0 to 15, 16 to 23 and 24 to 31.
first_word : (f : Family) (y : ℕ → ℕ) (i j : ℕ) → i < 16
    → matrix f y i j ≡ pair first_code (y (2 * rows f * i + 2 * j)) (y (2 * rows f * i + 2 * j + 1))
unfolding matrix
first_word f y i j h = rw (lt-ltb i 16 h)

even_word : (f : Family) (y : ℕ → ℕ) (i j : ℕ) → i < 8
    → matrix f y (16 + i) j ≡ pair second_code (y (2 * rows f * i + 2 * j)) (y (2 * rows f * i + 2 * j + 16 * rows f))
unfolding matrix
even_word f y i j h = rw (le-ltb (16 + i) 16 (omega arith), lt-ltb (16 + i) 24 (omega arith), add-sub_cancel_left 16 i)

odd_word : (f : Family) (y : ℕ → ℕ) (i j : ℕ) → i < 8
    → matrix f y (24 + i) j ≡ pair second_code (y (2 * rows f * i + 2 * j + 1)) (y (2 * rows f * i + 2 * j + 1 + 16 * rows f))
unfolding matrix
odd_word f y i j h = rw (le-ltb (24 + i) 16 (omega arith), le-ltb (24 + i) 24 (omega arith), add-sub_cancel_left 24 i)

three_parts : (g : ℕ → ℕ) → sum 32 g ≡ sum 16 g + (sum 8 (λ i. g (16 + i)) + sum 8 (λ i. g (24 + i)))
unfolding sum
three_parts g = omega arith

word : (f : Family) (y : ℕ → ℕ) (i j : ℕ) → i < 32 → j < rows f → get_or (get_or (expanded_from f y) i []) j 0 ≡ matrix f y (row_of_z i) j
unfolding expanded_from
word f y i j h k = rw (get_d_table 32 (λ i. table (rows f) (matrix f y (row_of_z i))) i [] h) (get_d_table (rows f) (matrix f y (row_of_z i)) j 0 k)

module _ (f : Family) (y z : ℕ → ℕ) where
  -- The bits apart of row i of Z.
  row_apart : ℕ → ℕ
  row_apart i = sum (rows f) (λ j. apart 32 (matrix f y i j) (matrix f z i j))

  -- The bits apart of the codes by c of value k.
  code_apart : ℕ → ℕ → ℕ
  code_apart c k = apart 16 (code c (y k)) (code c (z k))

  -- A row whose word j holds the codes by c of values l j and h j.
  by_words : (i c : ℕ) (l h : ℕ → ℕ) → ((v : ℕ → ℕ) (j : ℕ) → matrix f v i j ≡ pair c (v (l j)) (v (h j)))
      → row_apart i ≡ sum (rows f) (λ j. code_apart c (l j) + code_apart c (h j))
  unfolding row_apart code_apart
  by_words i c l h e =
      sum_ext (rows f) _ _ (λ j below. ap₂ (apart 32) (e y j) (e z j) ∙ pair_apart c (y (l j)) (y (h j)) (z (l j)) (z (h j)))

  first_rows : sum 16 row_apart ≡ sum (points f) (code_apart first_code)
  first_rows =
      sum_ext 16 _ _ (λ i below. by_words i first_code _ _ (λ v j. first_word f v i j below))
      ∙ by_rows 16 (rows f) (code_apart first_code)
      ∙ ap (λ n. sum n (code_apart first_code)) (omega arith)

  second_rows : sum 8 (λ i. row_apart (16 + i)) + sum 8 (λ i. row_apart (24 + i)) ≡ sum (points f) (code_apart second_code)
  second_rows =
      ap₂ (λ u v. u + v) (sum_ext 8 _ _ (λ i below. by_words (16 + i) second_code _ _ (λ v j. even_word f v i j below)))
      (sum_ext 8 _ _ (λ i below. by_words (24 + i) second_code _ _ (λ v j. odd_word f v i j below)))
      ∙ by_halves (rows f) (code_apart second_code)

  -- The bits that two expanded blocks are apart are those that the codes of their values are apart, each value counted once for each code.
  pub bits_by_codes : bits_apart f (expanded_from f y) (expanded_from f z)
      ≡ sum (points f) (λ k. apart 16 (code first_code (y k)) (code first_code (z k)))
      + sum (points f) (λ k. apart 16 (code second_code (y k)) (code second_code (z k)))
  unfolding bits_apart row_apart code_apart
  bits_by_codes =
      sum_ext 32 _ _ (λ i below. sum_ext (rows f) _ _ (λ j inside. ap₂ (apart 32) (word f y i j below inside) (word f z i j below inside)))
      ∙ reorder row_apart
      ∙ three_parts row_apart
      ∙ ap₂ (λ u v. u + v) first_rows second_rows
