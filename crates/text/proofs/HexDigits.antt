-- Hexadecimal digits read back: a digit that was written has its value, and a value is that of one character.
use mathlib.Core.Path.{◌≡◌, refl, sym, ap, ◌∙◌}
use Prim.Native.Nat.{ℕ, ◌+◌, ◌-◌, ◌/◌, ◌%◌, ◌≤◌, ◌<◌}
use native.Mathlib.Omega.{arith}
use native.Mathlib.Decide.{dec_lt}
use borrow.Author.Tests.{lt-ltb, le-ltb, le-leb, lt-leb}
use Rattle.text.specs.Text.{glyph, digit_of}

-- The ranges of characters, from below.
module _ (c : ℕ) where
  pub below_digits : c < 48 → digit_of c ≡ 16
  unfolding digit_of
  below_digits low = rw (lt-leb 48 c low, lt-leb 97 c (omega arith)) refl

  pub decimal_digit : 48 ≤ c → c ≤ 57 → digit_of c ≡ c - 48
  unfolding digit_of
  decimal_digit from to = rw (le-leb 48 c from, le-leb c 57 to) refl

  pub between_digits : 57 < c → c < 97 → digit_of c ≡ 16
  unfolding digit_of
  between_digits from to = rw (le-leb 48 c (omega arith), lt-leb c 57 from, lt-leb 97 c to) refl

  pub letter_digit : 97 ≤ c → c ≤ 102 → digit_of c ≡ c - 87
  unfolding digit_of
  letter_digit from to = rw (le-leb 48 c (omega arith), lt-leb c 57 (omega arith), le-leb 97 c from, le-leb c 102 to) refl

  pub above_digits : 102 < c → digit_of c ≡ 16
  unfolding digit_of
  above_digits high = rw (le-leb 48 c (omega arith), lt-leb c 57 (omega arith), le-leb 97 c (omega arith), lt-leb c 102 high) refl

digit_glyph : (d : ℕ) → d < 16 → digit_of (glyph d) ≡ d
unfolding glyph
digit_glyph d below =
    elim (dec_lt d 10) [
      | yes small ↦ rw (lt-ltb d 10 small) (omega (arith, decimal_digit (48 + d) (omega arith) (omega arith)))
      | no large ↦ rw (le-ltb d 10 (omega arith)) (omega (arith, letter_digit (87 + d) (omega arith) (omega arith)))
    ]

-- The two digits of a byte.
pub byte_read : (b : ℕ) → b < 256 → (digit_of (glyph (b / 16)) ≡ b / 16) × (digit_of (glyph (b % 16)) ≡ b % 16)
byte_read b below = (digit_glyph (b / 16) (omega arith), digit_glyph (b % 16) (omega arith))

pub decimal_read : (d : ℕ) → d < 10 → digit_of (48 + d) ≡ d
decimal_read d below = omega (arith, decimal_digit (48 + d) (omega arith) (omega arith))

-- A digit's value tells the character.
glyph_digit : (c : ℕ) → digit_of c < 16 → glyph (digit_of c) ≡ c
unfolding glyph
glyph_digit c digit =
    elim (dec_lt c 48) [
      | yes low ↦ absurd (omega (arith, below_digits c low))
      | no from ↦ elim (dec_lt c 58) [
        | yes decimal ↦
            let d = decimal_digit c (omega arith) (omega arith) in
            rw (lt-ltb (digit_of c) 10 (omega arith)) (omega arith)
        | no past ↦ elim (dec_lt c 97) [
          | yes between ↦ absurd (omega (arith, between_digits c (omega arith) between))
          | no on ↦ elim (dec_lt c 103) [
            | yes letter ↦
                let d = letter_digit c (omega arith) (omega arith) in
                rw (le-ltb (digit_of c) 10 (omega arith)) (omega arith)
            | no above ↦ absurd (omega (arith, above_digits c (omega arith)))
          ]
        ]
      ]
    ]

pub one_character : (a b : ℕ) → digit_of a ≡ digit_of b → digit_of a < 16 → a ≡ b
one_character a b same below = sym (glyph_digit a below) ∙ ap glyph same ∙ glyph_digit b (omega arith)
