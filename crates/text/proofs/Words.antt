-- Laws of numbers and bytes as text.
use mathlib.Core.Bool.{Bool, true, false, cond}
use mathlib.Core.List.{List, [], ◌∷◌, ◌++◌}
use mathlib.Core.Path.{◌≡◌, refl, ap, ◌∙◌}
use Prim.Native.Nat.{ℕ, zero, suc, ◌+◌, ◌-◌, ◌*◌, ◌/◌, ◌%◌, ◌^◌, ◌≤◌, ◌<◌}
use native.Mathlib.Nat.{not-suc-le-zero}
use native.Mathlib.Numerals.{add-one}
use native.Mathlib.Omega.{arith}
use native.Mathlib.Decide.{dec_lt}
use borrow.Author.Tests.{lt-ltb, le-ltb}
use lib.Dec.{ltb}
use lib.ListN.{length, get_or, take, length-append}
use lib.Seq.{take-suc}
use Rattle.text.specs.Text.{digits, decimal, glyph, hex}

-- The two digits of a byte.
abbrev pub pair : ℕ → List ℕ
pair b = glyph (b / 16) ∷ glyph (b % 16) ∷ []

pub length_hex : (l : List ℕ) → length (hex l) ≡ 2 * length l
unfolding hex
length_hex [] = refl
length_hex (b ∷ l) = omega (arith, length_hex l)

hex_append : (a b : List ℕ) → hex (a ++ b) ≡ hex a ++ hex b
unfolding hex
hex_append [] b = refl
hex_append (x ∷ a) b = ap {B = List ℕ} (λ (l : List ℕ). glyph (x / 16) ∷ glyph (x % 16) ∷ l) (hex_append a b)

pub hex_more : (l : List ℕ) (i : ℕ) → i < length l → hex (take (i + 1) l) ≡ hex (take i l) ++ pair (get_or l i 0)
unfolding hex
hex_more l i here = ap (λ (k : ℕ). hex (take k l)) (add-one i) ∙ ap hex (take-suc l i 0 here) ∙ hex_append (take i l) (get_or l i 0 ∷ [])

-- A number has at most as many digits as it may have.
cond_le : (b : Bool) (x y : List ℕ) (k : ℕ) → length x ≤ k → length y ≤ k → length (cond b x y) ≤ k
cond_le true x y k p q = p
cond_le false x y k p q = q

pub digits_le : (k n : ℕ) → length (digits k n) ≤ k
unfolding digits
digits_le zero n = omega arith
digits_le (suc k) n =
    cond_le (ltb n 10) _ _ (suc k) (omega arith)
    (omega (arith, length-append (digits k (n / 10)) ((48 + n % 10) ∷ []), digits_le k (n / 10)))

pub digits_last : (k n : ℕ) → n < 10 → 0 < k → digits k n ≡ (48 + n) ∷ []
unfolding digits
digits_last zero n small some = absurd (not-suc-le-zero some)
digits_last (suc k) n small some = simp (lt-ltb n 10 small)

pub digits_more : (k n : ℕ) → 10 ≤ n → 0 < k → digits k n ≡ digits (k - 1) (n / 10) ++ ((48 + n % 10) ∷ [])
unfolding digits
digits_more zero n large some = absurd (not-suc-le-zero some)
digits_more (suc k) n large some =
    let fewer : k ≡ suc k - 1 = omega arith in
    simp (le-ltb n 10 large) (ap (λ (j : ℕ). digits j (n / 10) ++ ((48 + n % 10) ∷ [])) fewer)

pub digits_none : (k n : ℕ) → k ≡ 0 → digits k n ≡ []
unfolding digits
digits_none k n e = ap (λ (j : ℕ). digits j n) e

-- A number below 10^j has at most j digits.
digits_short : (k j n : ℕ) → n < 10 ^ j → 0 < j → length (digits k n) ≤ j
unfolding digits
digits_short zero j n below some = omega arith
digits_short (suc k) zero n below some = absurd (omega arith)
digits_short (suc k) (suc zero) n below some = rw (lt-ltb n 10 below) (omega arith)
digits_short (suc k) (suc (suc j)) n below some =
    elim (dec_lt n 10) [
      | yes small ↦ rw (lt-ltb n 10 small) (omega arith)
      | no large ↦
          rw (le-ltb n 10 (omega arith))
          (omega (
            arith,
            length-append (digits k (n / 10)) ((48 + n % 10) ∷ []),
            digits_short k (suc j) (n / 10) (omega arith) (omega arith),
          ))
    ]

pub length_decimal : (j n : ℕ) → n < 10 ^ j → 0 < j → length (decimal n) ≤ j
unfolding decimal
length_decimal j n below some = digits_short 20 j n below some
