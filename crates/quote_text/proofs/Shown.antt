-- What digits show, two more at a time; digits looked through one by one; a quote in a text.
use mathlib.Core.Bool.{true, ◌&&◌}
use mathlib.Core.List.{List, [], ◌∷◌, ◌++◌, append_assoc}
use mathlib.Core.Path.{◌≡◌, refl, sym, ap, ◌∙◌}
use Prim.Native.Nat.{ℕ, suc, ◌+◌, ◌-◌, ◌*◌, ◌%◌, ◌≤◌, ◌<◌}
use native.Mathlib.Numerals.{add-one}
use native.Mathlib.Omega.{arith}
use borrow.Author.Tests.{eqb-true}
use lib.Dec.{eqb, ltb}
use Rattle.std.specs.List.{list_all}
use lib.ListN.{length, get_or, take, drop}
use lib.Seq.{length-take-le, take_at, drop_at, take-suc}
use Rattle.text.specs.Text.{over, hex, digit_of}
use Rattle.text.proofs.Over.{over_end}
use Rattle.check_digits.specs.Quote.{shown, number, check, two_digits, quote, digits_below, is_quote}
use Rattle.check_digits.proofs.Modulo.{times}
use Rattle.check_digits.proofs.Kind.{both}
use Rattle.check_digits.proofs.Theorems.{digits_16}

shown_last : (digits : List ℕ) (n c : ℕ) → shown n (digits ++ (c ∷ [])) ≡ 16 * shown n digits + digit_of c
unfolding shown
shown_last [] n c = refl
shown_last (d ∷ digits) n c = shown_last digits (16 * n + digit_of d) c

number_next : (digits : List ℕ) (j : ℕ) → j < length digits → number (take (suc j) digits) ≡ 16 * number (take j digits) + digit_of (get_or digits j 0)
number_next digits j inside = ap number (take-suc digits j 0 inside) ∙ shown_last (take j digits) 0 (get_or digits j 0)

pub remainder_more : (digits : List ℕ) (k left byte : ℕ) → 2 * k + 1 < length digits → left ≡ number (take (2 * k) digits) % 97
    → byte ≡ 16 * digit_of (get_or digits (2 * k) 0) + digit_of (get_or digits (2 * k + 1) 0)
    → (256 * left + byte) % 97 ≡ number (take (2 * (k + 1)) digits) % 97
remainder_more digits k left byte inside before here =
    let n = number (take (2 * k) digits) in
    let one = number_next digits (2 * k) (omega arith) in
    let two = number_next digits (suc (2 * k)) (omega arith) in
    let second : digit_of (get_or digits (2 * k + 1) 0) ≡ digit_of (get_or digits (suc (2 * k)) 0) =
    ap (λ (j : ℕ). digit_of (get_or digits j 0)) (add-one (2 * k)) in
    let end : suc (suc (2 * k)) ≡ 2 * (k + 1) = omega arith in
    let all : number (take (2 * (k + 1)) digits) ≡ 256 * n + byte =
    ap (λ (j : ℕ). number (take j digits)) (sym end) ∙ omega (arith, one, two, second, here) in
    ap (λ v. (256 * v + byte) % 97) before ∙ times 256 n byte 0 (256 * n + byte) (omega arith) ∙ ap (λ v. v % 97) (sym all)

two_size : (n : ℕ) → length (two_digits n) ≡ 2
unfolding two_digits
two_size n = refl

pub all_below : (k : ℕ) (text : List ℕ) → list_all (λ c. ltb (digit_of c) k) text ≡ digits_below k text
unfolding digits_below
all_below k [] = refl
all_below k (c ∷ text) = ap (λ b. ltb (digit_of c) k && b) (all_below k text)

pub kind_18 : (text : List ℕ) → is_quote text ≡ true → length text ≡ 18
unfolding is_quote
kind_18 text kind = eqb-true (length text) 18 (both (eqb (length text) 18) _ kind).0

-- The quote in a text: the digits are written first, their check is of what then stands there, and is put behind them.
module _ (t : List ℕ) (at end : ℕ) (digest x y : List ℕ) (n : ℕ) (fits : at + 18 ≤ length t) (enough : 8 ≤ length digest) where
  pub quote_written : end ≡ at + 16 → x ≡ over t at (hex (take 8 digest) ++ (48 ∷ [])) → n ≡ check (number (take (end - at) (drop at x)))
      → y ≡ over x end (two_digits n) → y ≡ over t at (quote digest)
  unfolding quote
  quote_written place digits checked last =
      let h = hex (take 8 digest) in
      let size : length h ≡ 16 = digits_16 digest enough in
      let s = h ++ (48 ∷ []) in
      let rest = drop (at + length s) t in
      let whole : x ≡ take at t ++ (s ++ rest) = digits ∙ append_assoc (take at t) s rest in
      let behind : drop at x ≡ h ++ ((48 ∷ []) ++ rest) =
      ap (drop at) whole ∙ drop_at (take at t) (s ++ rest) at (length-take-le at t (omega arith)) ∙ append_assoc h (48 ∷ []) rest in
      let room : end - at ≡ 16 = omega arith in
      let back : take (end - at) (drop at x) ≡ h = (λ i. take (room i) (behind i)) ∙ take_at h _ 16 size in
      let new : two_digits n ≡ two_digits (check (number h)) = ap two_digits (checked ∙ ap (λ (d : List ℕ). check (number d)) back) in
      let where_to : end ≡ at + length h = omega arith in
      last
      ∙ (λ i. over (digits i) (where_to i) (new i))
      ∙ over_end t at h (48 ∷ []) (two_digits (check (number h))) (omega (arith, two_size (check (number h)))) (omega (arith, two_size (check (number h))))
