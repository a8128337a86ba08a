-- Digits of the kind that a quote has: those of bytes are hexadecimal ones, those of a check decimal ones.
use mathlib.Core.Bool.{Bool, true, false, ◌&&◌}
use mathlib.Core.List.{List, [], ◌∷◌}
use mathlib.Core.Path.{◌≡◌, refl}
use Prim.Native.Nat.{ℕ, zero, suc, ◌+◌, ◌/◌, ◌%◌, ◌<◌}
use native.Mathlib.Omega.{arith}
use borrow.Author.Tests.{lt-ltb, ltb-true}
use lib.Dec.{ltb}
use lib.ListN.{length, get_or}
use Rattle.text.specs.Text.{glyph, hex, digit_of}
use Rattle.text.proofs.HexDigits.{byte_read, decimal_read}
use Rattle.check_digits.specs.Quote.{check, two_digits, digits_below}

pub both : (a b : Bool) → (a && b) ≡ true → (a ≡ true) × (b ≡ true)
both true b e = (refl, e)
both false b e = (e, cc)

-- A digit of a text whose digits are all below k.
pub digit_below : (k : ℕ) (text : List ℕ) (i : ℕ) → digits_below k text ≡ true → i < length text → digit_of (get_or text i 0) < k
unfolding digits_below
digit_below k [] i all inside = absurd (omega arith)
digit_below k (c ∷ text) zero all inside = ltb-true (digit_of c) k (both (ltb (digit_of c) k) _ all).0
digit_below k (c ∷ text) (suc i) all inside = digit_below k text i (both (ltb (digit_of c) k) _ all).1 (omega arith)

-- The digits of bytes, and those of a check.
pub hex_digits : (bytes : List ℕ) → ((i : ℕ) → get_or bytes i 0 < 256) → digits_below 16 (hex bytes) ≡ true
unfolding hex digits_below
hex_digits [] below = refl
hex_digits (b ∷ bytes) below =
    let small : b < 256 = below 0 in
    let digits = byte_read b small in
    rw (lt-ltb (digit_of (glyph (b / 16))) 16 (omega arith), lt-ltb (digit_of (glyph (b % 16))) 16 (omega arith))
    (hex_digits bytes (λ i. below (suc i)))

pub check_digits : (n : ℕ) → n < 100 → digits_below 10 (two_digits n) ≡ true
unfolding digits_below two_digits
check_digits n below =
    let high = decimal_read (n / 10) (omega arith) in
    let low = decimal_read (n % 10) (omega arith) in
    rw (lt-ltb (digit_of (48 + n / 10)) 10 (omega arith), lt-ltb (digit_of (48 + n % 10)) 10 (omega arith)) refl

pub check_below : (n : ℕ) → check n < 100
unfolding check
check_below n = omega arith
