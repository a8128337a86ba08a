-- What holds of all quotes: that of a digest is right, and no slip of one digit or of two neighbours is.
use mathlib.Core.Bool.{Bool, true, false}
use mathlib.Core.List.{List}
use mathlib.Core.Logic.{◌≢◌}
use mathlib.Core.Path.{◌≡◌, refl, sym, ap, ◌∙◌}
use Prim.Native.Nat.{ℕ, suc, ◌+◌, ◌/◌, ◌%◌, ◌<◌, ◌≤◌}
use native.Mathlib.Omega.{arith}
use native.Mathlib.Decide.{dec_lt}
use lib.ListN.{length, get_or, take, drop, set, length-append, get_or-eq_default}
use lib.Seq.{length-take-le, take_at, drop_at, get_or-take, get_or-append-add, get_or-set_same, get_or-set_other, take-set-lt}
use Rattle.text.specs.Text.{hex, digit_of}
use Rattle.text.proofs.Words.{length_hex}
use Rattle.text.proofs.HexDigits.{decimal_read, one_character}
use Rattle.check_digits.specs.Quote.{number, check, two_digits, quote, digits_below, is_right, exchanged}
use Rattle.check_digits.proofs.Modulo.{one_remainder, changed_digit, exchanged_digits}
use Rattle.check_digits.proofs.Kind.{hex_digits, check_digits, check_below}
use Rattle.check_digits.proofs.Right.{Right, parts, whole, digit_at}

-- The quote of a digest, or of any 8 bytes and more.
module _ (digest : List ℕ) (enough : 8 ≤ length digest) where
  pub digits_16 : length (hex (take 8 digest)) ≡ 16
  digits_16 = omega (arith, length_hex (take 8 digest), length-take-le 8 digest enough)

  pub quote_18 : length (quote digest) ≡ 18
  unfolding quote two_digits
  quote_18 = omega (arith, length-append (hex (take 8 digest)) (two_digits (check (number (hex (take 8 digest))))), digits_16)

  first_bytes : ((i : ℕ) → get_or digest i 0 < 256) → (i : ℕ) → get_or (take 8 digest) i 0 < 256
  first_bytes bytes i = elim (dec_lt i 8) [
    | yes inside ↦ rw (get_or-take 8 digest i 0 inside) (bytes i)
    | no past ↦ rw (get_or-eq_default (take 8 digest) 0 {n = i} (omega (arith, length-take-le 8 digest enough))) (omega arith)
  ]

  pub quote_right : ((i : ℕ) → get_or digest i 0 < 256) → is_right (quote digest) ≡ true
  unfolding quote two_digits
  quote_right bytes =
      let digits = hex (take 8 digest) in
      let n = check (number digits) in
      let front : take 16 (quote digest) ≡ digits = take_at digits (two_digits n) 16 digits_16 in
      let back : drop 16 (quote digest) ≡ two_digits n = drop_at digits (two_digits n) 16 digits_16 in
      let last : (k : ℕ) → get_or (quote digest) (16 + k) 0 ≡ get_or (two_digits n) k 0 =
      λ k. ap (λ (m : ℕ). get_or (quote digest) (m + k) 0) (sym digits_16) ∙ get_or-append-add digits (two_digits n) k 0 in
      let high : digit_of (get_or (quote digest) 16 0) ≡ n / 10 = ap digit_of (last 0) ∙ decimal_read (n / 10) (omega (arith, check_below (number digits))) in
      let low : digit_of (get_or (quote digest) 17 0) ≡ n % 10 = ap digit_of (last 1) ∙ decimal_read (n % 10) (omega arith) in
      whole (quote digest) record {
        size = quote_18;
        hexadecimal = ap (digits_below 16) front ∙ hex_digits (take 8 digest) (first_bytes bytes);
        decimal = ap (digits_below 10) back ∙ check_digits n (check_below (number digits));
        checked = omega (arith, high, low) ∙ ap (λ (d : List ℕ). check (number d)) (sym front);
      }

-- Slips in a right quote, with its check digits kept.
otherwise : (b : Bool) → (b ≡ true → ⊥) → b ≡ false
otherwise true never = absurd (never refl)
otherwise false never = refl

module _ (text : List ℕ) (right : is_right text ≡ true) where
  abbrev r : Right text
  r = parts text right

  size_16 : length (take 16 text) ≡ 16
  size_16 = length-take-le 16 text (omega (arith, r.size))

  -- A right quote with the same check digits shows a number of the same remainder.
  same_remainder : (other : List ℕ) → Right other → get_or other 16 0 ≡ get_or text 16 0 → get_or other 17 0 ≡ get_or text 17 0
      → number (take 16 other) % 97 ≡ number (take 16 text) % 97
  same_remainder other o tens ones =
      one_remainder (number (take 16 other)) (number (take 16 text))
      (omega (arith, o.checked, r.checked, ap digit_of tens, ap digit_of ones))

  -- One of the 16 digits changed to any other character: never a right quote.
  pub digit_changed : (i c : ℕ) → i < 16 → c ≢ get_or text i 0 → is_right (set text i c) ≡ false
  digit_changed i c inside other = otherwise (is_right (set text i c)) (λ e.
      let o = parts (set text i c) e in
      let new : digit_of c < 16 = rw (sym (get_or-set_same text i c 0 (omega (arith, r.size)))) (digit_at (set text i c) o i inside) in
      let at : get_or (take 16 text) i 0 ≡ get_or text i 0 = get_or-take 16 text i 0 inside in
      let kept : (j : ℕ) → 15 < j → get_or (set text i c) j 0 ≡ get_or text j 0 = λ j far. get_or-set_other text i j c 0 (λ (k : j ≡ i). omega arith) in
      let left = same_remainder (set text i c) o (kept 16 (omega arith)) (kept 17 (omega arith)) in
      let front : number (set (take 16 text) i c) % 97 ≡ number (take 16 text) % 97 =
      ap (λ (d : List ℕ). number d % 97) (sym (take-set-lt 16 text i c inside)) ∙ left in
      let old : digit_of (get_or (take 16 text) i 0) < 16 = rw at (digit_at text r i inside) in
      let same = changed_digit (take 16 text) 0 i c (omega (arith, size_16)) new old front in
      other (one_character c (get_or text i 0) (same ∙ ap digit_of at) new))

  -- Two unequal neighbours among the 16 exchanged: never a right quote.
  pub neighbours_exchanged : (i : ℕ) → suc i < 16 → get_or text i 0 ≢ get_or text (suc i) 0 → is_right (exchanged text i) ≡ false
  neighbours_exchanged i inside other = otherwise (is_right (exchanged text i)) (λ e.
      let x = get_or text i 0 in
      let y = get_or text (suc i) 0 in
      let o = parts (exchanged text i) e in
      let kept : (j : ℕ) → 15 < j → get_or (exchanged text i) j 0 ≡ get_or text j 0 =
      λ j far.
      get_or-set_other (set text i y) (suc i) j x 0 (λ (k : j ≡ suc i). omega arith) ∙ get_or-set_other text i j y 0 (λ (k : j ≡ i). omega arith) in
      let at_i : get_or (take 16 text) i 0 ≡ x = get_or-take 16 text i 0 (omega arith) in
      let at_next : get_or (take 16 text) (suc i) 0 ≡ y = get_or-take 16 text (suc i) 0 inside in
      let front : take 16 (exchanged text i) ≡ exchanged (take 16 text) i =
      take-set-lt 16 (set text i y) (suc i) x inside
      ∙ ap (λ (l : List ℕ). set l (suc i) x) (take-set-lt 16 text i y (omega arith))
      ∙ λ k. set (set (take 16 text) i (sym at_next k)) (suc i) (sym at_i k) in
      let left = same_remainder (exchanged text i) o (kept 16 (omega arith)) (kept 17 (omega arith)) in
      let one : digit_of (get_or (take 16 text) i 0) < 16 = rw at_i (digit_at text r i (omega arith)) in
      let two : digit_of (get_or (take 16 text) (suc i) 0) < 16 = rw at_next (digit_at text r (suc i) inside) in
      let same = exchanged_digits (take 16 text) 0 i (omega (arith, size_16)) one two (ap (λ (d : List ℕ). number d % 97) (sym front) ∙ left) in
      other (one_character x y (sym (ap digit_of at_i) ∙ same ∙ ap digit_of at_next) (digit_at text r i (omega arith))))
