-- Laws of a list in whose middle a part was put.
use mathlib.Core.List.{List, ◌++◌, append_assoc}
use mathlib.Core.Path.{◌≡◌, refl, sym, ap, ◌∙◌}
use Prim.Native.Nat.{ℕ, ◌+◌, ◌-◌, ◌<◌, ◌≤◌}
use native.Mathlib.Omega.{arith}
use borrow.Rule.Slice.PartMut.{mid_of, put_mid, post_of, drop_put, same_len_mid, mid_len}
use native.Mathlib.Decide.{dec_lt}
use lib.ListN.{replicate, length-replicate, get_or-replicate, get_or-eq_default, length, get_or, take, drop, length-append, length-take, length-drop, get_or-append}
use lib.Seq.{take_all, take_at, get_or-append-add, get_or-take, get_or-drop}
use Rattle.simd.specs.Basic.{table}
use Rattle.laws.proofs.Table.{table_of}
use Rattle.bits.specs.Zero.{padded}
use Rattle.bits.proofs.Filling.{Filled}

pub part_size : (a n : ℕ) (xs : List ℕ) → a + n ≤ length xs → length (mid_of a (a + n - a) xs) ≡ n
part_size a n xs within = mid_len a (a + n) xs within ∙ omega arith

pub front_size : (n : ℕ) (xs : List ℕ) → n ≤ length xs → length (take (n - 0) xs) ≡ n
front_size n xs within = omega (arith, length-take (n - 0) xs)

pub back : (n : ℕ) (xs : List ℕ) → take (length xs - n) (drop n xs) ≡ drop n xs
back n xs = take_all (length xs - n) (drop n xs) (omega (arith, length-drop n xs))

module _ (a e : ℕ) (xs ys : List ℕ) (order : a ≤ e) (within : e ≤ length xs) (fits : length ys ≡ e - a) where
  front : length (take a xs) ≡ a
  front = omega (arith, length-take a xs)

  pub put_before : (j : ℕ) → j < a → get_or (put_mid a (e - a) xs ys) j 0 ≡ get_or xs j 0
  put_before j before =
      get_or-append (take a xs) (ys ++ post_of a (e - a) xs) 0 j (omega (arith, front)) ∙ get_or-take a xs j 0 before

  pub put_part : (i : ℕ) → i < e - a → get_or (put_mid a (e - a) xs ys) (a + i) 0 ≡ get_or ys i 0
  put_part i inside =
      ap (λ (n : ℕ). get_or (put_mid a (e - a) xs ys) n 0) (ap (λ (n : ℕ). n + i) (sym front))
      ∙ get_or-append-add (take a xs) (ys ++ post_of a (e - a) xs) i 0
      ∙ get_or-append ys (post_of a (e - a) xs) 0 i (omega (arith, fits))

  pub put_after : (j : ℕ) → e ≤ j → get_or (put_mid a (e - a) xs ys) j 0 ≡ get_or xs j 0
  put_after j after =
      let place : e + (j - e) ≡ j = omega arith in
      let there = rw place at (get_or-drop e (put_mid a (e - a) xs ys) (j - e) 0) in
      let here = rw place at (get_or-drop e xs (j - e) 0) in
      sym there ∙ ap (λ (l : List ℕ). get_or l (j - e) 0) (drop_put a e xs ys order within fits) ∙ here

  pub put_length : length (put_mid a (e - a) xs ys) ≡ length xs
  put_length = same_len_mid a (e - a) xs ys (fits ∙ sym (mid_len a e xs within))

-- A list whose first elements are those of g, and more of them written behind.
pub filled_part : (n i k : ℕ) (g : ℕ → ℕ) (xs ys : List ℕ) → Filled n i g xs → i + k ≤ n → length ys ≡ k
    → ((t : ℕ) → t < k → get_or ys t 0 ≡ g (i + t)) → Filled n (i + k) g (put_mid i (i + k - i) xs ys)
filled_part n i k g xs ys f within size new =
    let inside : i + k ≤ length xs = omega (arith, f.size) in
    let fits : length ys ≡ i + k - i = omega arith in
    record {
      size = put_length i (i + k) xs ys (omega arith) inside fits ∙ f.size;
      front =
          λ j below. elim (dec_lt j i) [
            | yes before ↦ put_before i (i + k) xs ys (omega arith) inside fits j before ∙ f.front j before
            | no after ↦
                let place : i + (j - i) ≡ j = omega arith in
                rw place at (put_part i (i + k) xs ys (omega arith) inside fits (j - i) (omega arith) ∙ new (j - i) (omega arith))
          ];
    }

-- The front of a list, with a part put behind what is there.
pub put_front : (a e : ℕ) (xs ys p : List ℕ) → a ≤ e → e ≤ length xs → length ys ≡ e - a → take a xs ≡ p → take e (put_mid a (e - a) xs ys) ≡ p ++ ys
put_front a e xs ys p order within fits front =
    ap (take e) (sym (append_assoc (take a xs) ys (post_of a (e - a) xs)))
    ∙ take_at (take a xs ++ ys) (post_of a (e - a) xs) e (omega (arith, length-append (take a xs) ys, length-take a xs))
    ∙ ap (λ (l : List ℕ). l ++ ys) front

-- A list that is g, of which the first elements were written anew.
pub over : (front xs : List ℕ) (n k : ℕ) (g : ℕ → ℕ) → length xs ≡ n → k ≤ n → length front ≡ k → ((i : ℕ) → i < k → get_or front i 0 ≡ g i)
    → ((i : ℕ) → k ≤ i → i < n → get_or xs i 0 ≡ g i) → front ++ drop k xs ≡ table n g
over front xs n k g size within put new old =
    table_of 0 n g (front ++ drop k xs) (omega (arith, length-append front (drop k xs), length-drop k xs)) (λ i below. each i below)
  where
    each : (i : ℕ) → i < n → get_or (front ++ drop k xs) i 0 ≡ g i
    each i below = elim (dec_lt i k) [
      | yes first ↦ get_or-append front (drop k xs) 0 i (omega arith) ∙ new i first
      | no behind ↦
          let place : k + (i - k) ≡ i = omega arith in
          let at : length front + (i - k) ≡ i = omega arith in
          rw at at (get_or-append-add front (drop k xs) (i - k) 0) ∙ rw place at (get_or-drop k xs (i - k) 0) ∙ old i (omega arith) below
    ]

pub over_zeros : (n : ℕ) (xs : List ℕ) → length xs ≤ n → xs ++ drop (length xs) (replicate n 0) ≡ padded n xs
unfolding padded
over_zeros n xs within =
    over xs (replicate n 0) n (length xs) (λ i. get_or xs i 0) (length-replicate n 0) within refl (λ i _. refl)
    (λ i past below. get_or-replicate n i 0 0 below ∙ sym (get_or-eq_default xs 0 {n = i} past))
