-- How the words of Z are put together: two parts of a slice, halves of pairs of codes, and all of Z from its quarters.
use mathlib.Core.List.{List, ◌++◌, append-nil}
use mathlib.Core.Path.{◌≡◌, sym, ap, ◌∙◌}
use Prim.Native.Nat.{ℕ, ◌+◌, ◌*◌, ◌-◌, ◌<◌, ◌≤◌}
use native.Mathlib.Omega.{arith}
use lib.IntN.{ℤ, pos, negsuc, ◌*ℤ◌}
use lib.ListN.{length, get_or, drop, length-append, drop_of_length-le}
use lib.Seq.{take_at, drop_at}
use borrow.Author.Tests.{lt-ltb, le-ltb}
use borrow.Rule.Slice.PartMut.{put_mid}
use Rattle.simd.specs.Basic.{table}
use Rattle.simd.specs.Expansion.{lift, residue, code, pair}
use Rattle.laws.proofs.Table.{length_table, get_d_table, table_ext}
use Rattle.laws.proofs.Append.{table_append}
use Rattle.inner_code.specs.Codes.{coded}
use Rattle.matrix_words.specs.Layers.{neighbours, half, halves_apart, lower, flat}

rejoined : (a : ℕ) (l xs ys : List ℕ) → length xs ≡ a → put_mid a (length (xs ++ drop a l) - a) (xs ++ drop a l) ys ≡ xs ++ ys
rejoined a l xs ys e =
    let rest : length (drop a l) ≤ length (xs ++ drop a l) - a = omega (arith, length-append xs (drop a l)) in
    rw (take_at xs (drop a l) a e, drop_at xs (drop a l) a e, drop_of_length-le (drop a l) rest, append-nil ys)

-- A slice of which the first a elements were lent and came back as a table of a places, and then the rest, which came back as ys.
pub two_parts : (a : ℕ) (l : List ℕ) (g : ℕ → ℕ) {xs ys zs : List ℕ} → xs ≡ table a g → ys ≡ zs
    → put_mid a (length (xs ++ drop a l) - a) (xs ++ drop a l) ys ≡ table a g ++ zs
two_parts a l g {xs} {ys} first second = rejoined a l xs ys (ap length first ∙ length_table a g) ∙ (λ i. first i ++ second i)

residue_lt : (z : ℤ) → residue z < 65536
unfolding residue
residue_lt (pos n) = omega arith
residue_lt (negsuc n) = omega arith

code_lt : (c y : ℕ) → code c y < 65536
unfolding code
code_lt c y = residue_lt (pos c *ℤ lift y)

-- The halves of a pair are its codes.
low_half : (c a b : ℕ) → half 0 (pair c a b) ≡ code c a
unfolding half pair
low_half c a b = omega (arith, code_lt c a)

high_half : (c a b : ℕ) → half 16 (pair c a b) ≡ code c b
unfolding half pair
high_half c a b = omega (arith, code_lt c a, code_lt c b)

-- The words of Z by their quarters.
flat_first : (q : ℕ) (y : ℕ → ℕ) (k : ℕ) → k < 2 * q → flat q y k ≡ pair 185 (y (2 * k)) (y (2 * k + 1))
unfolding flat
flat_first q y k below = rw (lt-ltb k (2 * q) below)

flat_second : (q : ℕ) (y : ℕ → ℕ) (k : ℕ) → k < q → flat q y (2 * q + k) ≡ pair 233 (y (2 * k)) (y (2 * k + 2 * q))
unfolding flat
flat_second q y k below =
    let at : 2 * q + k - 2 * q ≡ k = omega arith in
    rw (le-ltb (2 * q + k) (2 * q) (omega arith), lt-ltb (2 * q + k) (3 * q) (omega arith), at)

flat_third : (q : ℕ) (y : ℕ → ℕ) (k : ℕ) → k < q → flat q y (2 * q + (q + k)) ≡ pair 233 (y (2 * k + 1)) (y (2 * k + 1 + 2 * q))
unfolding flat
flat_third q y k below =
    let at : 2 * q + (q + k) - 3 * q ≡ k = omega arith in
    rw (le-ltb (2 * q + (q + k)) (2 * q) (omega arith), le-ltb (2 * q + (q + k)) (3 * q) (omega arith), at)

-- What the loops make of the values ys is Z.
module _ (q : ℕ) (ys : List ℕ) where
  y : ℕ → ℕ
  y k = get_or ys k 0

  codes : ℕ → List ℕ
  codes c = table (4 * q) (coded c ys)

  pairs : List ℕ
  pairs = table (2 * q) (neighbours (codes 233))

  word : (c k : ℕ) → k < 2 * q → neighbours (codes c) k ≡ pair c (y (2 * k)) (y (2 * k + 1))
  unfolding neighbours coded pair y codes
  word c k below = rw (get_d_table (4 * q) (coded c ys) (2 * k) 0 (omega arith), get_d_table (4 * q) (coded c ys) (2 * k + 1) 0 (omega arith))

  paired : (k : ℕ) → k < 2 * q → get_or pairs k 0 ≡ pair 233 (y (2 * k)) (y (2 * k + 1))
  unfolding pairs
  paired k below = get_d_table (2 * q) (neighbours (codes 233)) k 0 below ∙ word 233 k below

  lows : (k : ℕ) → k < q → halves_apart q 0 pairs k ≡ pair 233 (y (2 * k)) (y (2 * k + 2 * q))
  unfolding halves_apart pair
  lows k below =
      let far : 2 * (k + q) ≡ 2 * k + 2 * q = omega arith in
      let near_half = low_half 233 (y (2 * k)) (y (2 * k + 1)) in
      let far_half = low_half 233 (y (2 * (k + q))) (y (2 * (k + q) + 1)) in
      rw (paired k (omega arith), paired (k + q) (omega arith), near_half, far_half, far)

  highs : (k : ℕ) → k < q → halves_apart q 16 pairs k ≡ pair 233 (y (2 * k + 1)) (y (2 * k + 1 + 2 * q))
  unfolding halves_apart pair
  highs k below =
      let far : 2 * (k + q) + 1 ≡ 2 * k + 1 + 2 * q = omega arith in
      let near_half = high_half 233 (y (2 * k)) (y (2 * k + 1)) in
      let far_half = high_half 233 (y (2 * (k + q))) (y (2 * (k + q) + 1)) in
      rw (paired k (omega arith), paired (k + q) (omega arith), near_half, far_half, far)

  flat_parts : table (2 * q) (neighbours (table (4 * q) (coded 185 ys))) ++ lower q (table (2 * q) (neighbours (table (4 * q) (coded 233 ys))))
      ≡ table (4 * q) (flat q (λ k. get_or ys k 0))
  unfolding lower y codes pairs
  flat_parts =
      let all : 4 * q ≡ 2 * q + (q + q) = omega arith in
      let first = table_ext (2 * q) (neighbours (codes 185)) (flat q y) (λ k below. word 185 k below ∙ sym (flat_first q y k below)) in
      let second = table_ext q (halves_apart q 0 pairs) (λ k. flat q y (2 * q + k)) (λ k below. lows k below ∙ sym (flat_second q y k below)) in
      let third = table_ext q (halves_apart q 16 pairs) (λ k. flat q y (2 * q + (q + k))) (λ k below. highs k below ∙ sym (flat_third q y k below)) in
      sym
      (ap (λ n. table n (flat q y)) all ∙ table_append (2 * q) (q + q) (flat q y)
      ∙ ap (λ l. table (2 * q) (flat q y) ++ l) (table_append q q (λ k. flat q y (2 * q + k)))
      ∙ (λ i. sym first i ++ (sym second i ++ sym third i)))

  -- The same, step by step.
  pub flat_of : {a b p l : List ℕ} → length ys ≡ 4 * q → a ≡ table (length ys) (coded 185 ys) → b ≡ table (length ys) (coded 233 ys)
      → p ≡ table (2 * q) (neighbours b) → l ≡ table (2 * q) (neighbours a) ++ lower q p → l ≡ table (4 * q) (flat q (λ k. get_or ys k 0))
  flat_of size first second paired-up all = rw (all, paired-up, first, second, size) flat_parts
