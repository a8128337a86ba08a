-- What a right quote is, part by part.
use mathlib.Core.Bool.{true}
use mathlib.Core.List.{List}
use mathlib.Core.Path.{◌≡◌, refl, sym}
use Prim.Native.Nat.{ℕ, ◌+◌, ◌*◌, ◌<◌}
use native.Mathlib.Omega.{arith}
use borrow.Author.Tests.{eqb-true, eq-eqb}
use lib.Dec.{eqb}
use lib.ListN.{length, get_or, take, drop}
use lib.Seq.{length-take-le, get_or-take}
use Rattle.text.specs.Text.{digit_of}
use Rattle.check_digits.specs.Quote.{number, check, digits_below, is_quote, is_right}
use Rattle.check_digits.proofs.Kind.{both, digit_below}

pub record Right (text : List ℕ) : Type 0 where
  pub size : length text ≡ 18
  pub hexadecimal : digits_below 16 (take 16 text) ≡ true
  pub decimal : digits_below 10 (drop 16 text) ≡ true
  pub checked : 10 * digit_of (get_or text 16 0) + digit_of (get_or text 17 0) ≡ check (number (take 16 text))

pub parts : (text : List ℕ) → is_right text ≡ true → Right text
unfolding is_right is_quote
parts text right =
    let whole = both (is_quote text) _ right in
    let kind = both (eqb (length text) 18) _ whole.0 in
    let digits = both (digits_below 16 (take 16 text)) _ kind.1 in
    record { size = eqb-true (length text) 18 kind.0; hexadecimal = digits.0; decimal = digits.1; checked = eqb-true _ _ whole.1 }

pub whole : (text : List ℕ) → Right text → is_right text ≡ true
unfolding is_right is_quote
whole text r = rw (eq-eqb (length text) 18 r.size, r.hexadecimal, r.decimal, eq-eqb _ _ r.checked) refl

-- Its 16 digits are hexadecimal ones.
pub digit_at : (text : List ℕ) → Right text → (i : ℕ) → i < 16 → digit_of (get_or text i 0) < 16
digit_at text r i inside =
    rw (sym (get_or-take 16 text i 0 inside))
    (digit_below 16 (take 16 text) i r.hexadecimal (omega (arith, length-take-le 16 text (omega (arith, r.size)))))
