-- Reading a page back: the number that columns show, and the bytes that hexadecimal digits show.
use mathlib.Core.Bool.{cond}
use mathlib.Core.List.{List, [], ◌∷◌, ◌++◌}
use mathlib.Core.Path.{◌≡◌, refl, sym, ap, ◌∙◌}
use Prim.Native.Nat.{ℕ, zero, suc, ◌+◌, ◌*◌, ◌-◌, ◌/◌, ◌%◌, ◌^◌, ◌<◌}
use native.Mathlib.Omega.{arith}
use native.Mathlib.Decide.{dec_lt}
use borrow.Author.Tests.{lt-ltb, le-ltb}
use lib.Dec.{ltb}
use lib.ListN.{length, get_or}
use Rattle.text.specs.Text.{digits, decimal, glyph, hex, digit_of}
use Rattle.text.proofs.HexDigits.{byte_read}
use Rattle.ledger.specs.Page.{spaces, right, number_columns, width_columns}

-- Spaces are passed over; any other byte is the next digit.
unfoldable pub value : ℕ → List ℕ → ℕ
value n [] = n
value n (c ∷ text) = value (cond (ltb c 48) n (10 * n + (c - 48))) text

value_spaces : (k n : ℕ) (text : List ℕ) → value n (spaces k ++ text) ≡ value n text
unfolding value
value_spaces zero n text = refl
value_spaces (suc k) n text = value_spaces k n text

value_append : (a b : List ℕ) (n : ℕ) → value n (a ++ b) ≡ value (value n a) b
unfolding value
value_append [] b n = refl
value_append (c ∷ a) b n = value_append a b (cond (ltb c 48) n (10 * n + (c - 48)))

value_digit : (n d : ℕ) → value n ((48 + d) ∷ []) ≡ 10 * n + d
unfolding value
value_digit n d = rw (le-ltb (48 + d) 48 (omega arith)) (omega arith)

value_digits : (k n : ℕ) → n < 10 ^ k → value 0 (digits k n) ≡ n
unfolding digits value
value_digits zero n below = omega arith
value_digits (suc k) n below =
    elim (dec_lt n 10) [
      | yes small ↦ rw (lt-ltb n 10 small) (value_digit 0 n ∙ omega arith)
      | no large ↦
          rw (le-ltb n 10 (omega arith))
          (value_append (digits k (n / 10)) ((48 + n % 10) ∷ []) 0
          ∙ ap (λ (m : ℕ). value m ((48 + n % 10) ∷ [])) (value_digits k (n / 10) (omega arith))
          ∙ value_digit (n / 10) (n % 10)
          ∙ omega arith)
    ]

-- A number in columns is read back, and so are an entry's number and width.
value_right : (k n : ℕ) → n < 1000000 → value 0 (right k (decimal n)) ≡ n
unfolding right decimal
value_right k n below = value_spaces (k - length (decimal n)) 0 (decimal n) ∙ value_digits 20 n (omega arith)

pub number_told : (number : ℕ) → number < 1000000 → value 0 (number_columns number) ≡ number
unfolding number_columns
number_told number below = value_right 6 _ (omega arith)

pub width_told : (width : ℕ) → width < 1000 → value 0 (width_columns width) ≡ width
unfolding width_columns
width_told width below = value_right 3 _ (omega arith)

-- The bytes of a text of hexadecimal digits.
unfoldable unhex : List ℕ → List ℕ
unhex [] = []
unhex (a ∷ []) = []
unhex (a ∷ b ∷ text) = (16 * digit_of a + digit_of b) ∷ unhex text

unhex_hex : (bytes : List ℕ) → ((i : ℕ) → get_or bytes i 0 < 256) → unhex (hex bytes) ≡ bytes
unfolding unhex hex
unhex_hex [] below = refl
unhex_hex (b ∷ bytes) below =
    let digits = byte_read b (below 0) in
    let same : 16 * digit_of (glyph (b / 16)) + digit_of (glyph (b % 16)) ≡ b = omega arith in
    λ i. same i ∷ unhex_hex bytes (λ k. below (suc k)) i

-- Bytes with the same digits are the same.
pub hex_only : (x y : List ℕ) → ((i : ℕ) → get_or x i 0 < 256) → ((i : ℕ) → get_or y i 0 < 256) → hex x ≡ hex y → x ≡ y
hex_only x y below-x below-y same = sym (unhex_hex x below-x) ∙ ap unhex same ∙ unhex_hex y below-y
