-- Where the ends of lines stand: no byte of a line is below a space but its end.
use mathlib.Core.List.{List, [], ◌∷◌, ◌++◌}
use mathlib.Core.Path.{◌≡◌, sym, ap, ◌∙◌}
use Prim.Native.Nat.{ℕ, zero, suc, ◌+◌, ◌-◌, ◌/◌, ◌%◌, ◌≤◌, ◌<◌}
use native.Mathlib.Omega.{arith}
use native.Mathlib.Decide.{dec_lt, dec_le}
use borrow.Author.Tests.{lt-ltb, le-ltb, le-leb, lt-leb}
use lib.ListN.{length, get_or, take, drop, length-append, length-replicate, length-take, length-drop, get_or-replicate, get_or-append}
use lib.Seq.{get_or-append-add, get_or-take, get_or-drop, get_or_at}
use Rattle.text.specs.Text.{digits, decimal, glyph, hex}
use Rattle.ledger.specs.Page.{spaces, right, left, line, number_columns, width_columns, front, entry_lines}
use Rattle.ledger.proofs.Columns.{Facts, length_left, length_front}

-- A byte behind the first of two texts is one of the second.
get_d_behind : (a b : List ℕ) (i : ℕ) → length a ≤ i → get_or (a ++ b) i 0 ≡ get_or b (i - length a) 0
get_d_behind a b i behind =
    let place : i ≡ length a + (i - length a) = omega arith in
    ap (λ (k : ℕ). get_or (a ++ b) k 0) place ∙ get_or-append-add a b (i - length a) 0

-- A text with no byte below a space.
abbrev Inked : List ℕ → Type 0
Inked text = (i : ℕ) → i < length text → 32 ≤ get_or text i 0

inked_append : (a b : List ℕ) → Inked a → Inked b → Inked (a ++ b)
inked_append a b f g i below =
    elim (dec_lt i (length a)) [
      | yes before ↦ rw (get_or-append a b 0 i before) (f i before)
      | no behind ↦ rw (get_d_behind a b i (omega arith)) (g (i - length a) (omega (arith, length-append a b)))
    ]

inked_spaces : (k : ℕ) → Inked (spaces k)
inked_spaces k i below = omega (arith, get_or-replicate {A = ℕ} k i 32 0 (omega (arith, length-replicate {A = ℕ} k 32)))

inked_one : (c : ℕ) → 32 ≤ c → Inked (c ∷ [])
inked_one c ink zero below = ink
inked_one c ink (suc i) below = absurd (omega arith)

inked_digits : (k n : ℕ) → Inked (digits k n)
unfolding digits
inked_digits zero n = λ i below. absurd (omega arith)
inked_digits (suc k) n =
    elim (dec_lt n 10) [
      | yes small ↦ rw (lt-ltb n 10 small) (inked_one (48 + n) (omega arith))
      | no large ↦
          rw (le-ltb n 10 (omega arith))
          (inked_append (digits k (n / 10)) ((48 + n % 10) ∷ []) (inked_digits k (n / 10)) (inked_one (48 + n % 10) (omega arith)))
    ]

inked_glyph : (d : ℕ) → 32 ≤ glyph d
unfolding glyph
inked_glyph d = elim (dec_lt d 10) [
  | yes small ↦ rw (lt-ltb d 10 small) (omega arith)
  | no large ↦ rw (le-ltb d 10 (omega arith)) (omega arith)
]

inked_hex : (bytes : List ℕ) → Inked (hex bytes)
unfolding hex
inked_hex [] i below = absurd (omega arith)
inked_hex (b ∷ bytes) zero below = inked_glyph (b / 16)
inked_hex (b ∷ bytes) (suc zero) below = inked_glyph (b % 16)
inked_hex (b ∷ bytes) (suc (suc i)) below = inked_hex bytes i (omega arith)

inked_take : (k : ℕ) (text : List ℕ) → Inked text → Inked (take k text)
inked_take k text f i below =
    let within = length-take k text in
    rw (get_or-take k text i 0 (omega arith)) (f i (omega arith))

inked_drop : (k : ℕ) (text : List ℕ) → Inked text → Inked (drop k text)
inked_drop k text f i below = rw (get_or-drop k text i 0) (f (k + i) (omega (arith, length-drop k text)))

inked_decimal : (k n : ℕ) → Inked (right k (decimal n))
unfolding right decimal
inked_decimal k n = inked_append (spaces (k - length (decimal n))) (decimal n) (inked_spaces (k - length (decimal n))) (inked_digits 20 n)

inked_front : (number width : ℕ) → Inked (front number width)
unfolding front number_columns width_columns
inked_front number width =
    let n = number_columns number in
    let w = width_columns width in
    let space = inked_one 32 (omega arith) in
    inked_append (n ++ (32 ∷ []) ++ w) (32 ∷ [])
    (inked_append (n ++ (32 ∷ [])) w (inked_append n (32 ∷ []) (inked_decimal 6 _) space) (inked_decimal 3 _)) space

-- A text of whole lines: of its bytes every 76th is 10, and no other.
pub record Lines (text : List ℕ) : Type 0 where
  pub whole : length text % 76 ≡ 0
  pub ends : (i : ℕ) → i < length text → i % 76 ≡ 75 → get_or text i 0 ≡ 10
  pub only : (i : ℕ) → i < length text → get_or text i 0 ≡ 10 → i % 76 ≡ 75

pub lines_none : Lines []
lines_none = record { whole = omega arith; ends = λ i below. absurd (omega arith); only = λ i below. absurd (omega arith) }

pub lines_append : {a b : List ℕ} → Lines a → Lines b → Lines (a ++ b)
lines_append {a} {b} f g =
    record {
      whole = omega (arith, length-append a b, f.whole, g.whole);
      ends =
          λ i below here. elim (dec_lt i (length a)) [
            | yes before ↦ get_or-append a b 0 i before ∙ f.ends i before here
            | no behind ↦
                let k = i - length a in
                get_d_behind a b i (omega arith) ∙ g.ends k (omega (arith, length-append a b)) (omega (arith, f.whole))
          ];
      only =
          λ i below here. elim (dec_lt i (length a)) [
            | yes before ↦ f.only i before (sym (get_or-append a b 0 i before) ∙ here)
            | no behind ↦
                let k = i - length a in
                omega (arith, f.whole, g.only k (omega (arith, length-append a b)) (sym (get_d_behind a b i (omega arith)) ∙ here))
          ];
    }

-- One line is such a text.
line_lines : (first text : List ℕ) → length first ≡ 11 → length text ≤ 64 → Inked first → Inked text → Lines (line first text)
unfolding line left
line_lines first text eleven fits f g =
    let columns = first ++ left 64 text in
    let size : length columns ≡ 75 = omega (arith, length-append first (left 64 text), length_left 64 text fits, eleven) in
    let total : length (line first text) ≡ 76 = omega (arith, length-append columns (10 ∷ [])) in
    let ink : Inked columns =
    inked_append first (left 64 text) f (inked_append text (spaces (64 - length text)) g (inked_spaces (64 - length text))) in
    record {
      whole = omega arith;
      ends =
          λ i below here.
          let place : i ≡ 75 = omega arith in
          ap (λ (k : ℕ). get_or (columns ++ (10 ∷ [])) k 0) place ∙ get_or_at columns 10 [] 0 75 size;
      only =
          λ i below here. elim (dec_lt i 75) [
            | yes before ↦ absurd (omega (arith, ink i (omega arith), get_or-append columns (10 ∷ []) 0 i (omega arith)))
            | no last ↦ omega arith
          ];
    }

-- An entry's lines are one or two of them.
pub entry_lines_lem : (number width : ℕ) (digest : List ℕ) → Facts number width digest → Lines (entry_lines number width digest)
unfolding entry_lines
entry_lines_lem number width digest f =
    let text = hex digest in
    let ink = inked_hex digest in
    let one = line_lines (front number width) (take 64 text) (length_front number width digest f)
    (omega (arith, length-take 64 text)) (inked_front number width) (inked_take 64 text ink) in
    elim (dec_le (length text) 64) [
      | yes few ↦ rw (le-leb (length text) 64 few) (lines_append one lines_none)
      | no many ↦
          let two = line_lines (spaces 11) (drop 64 text) (length-replicate {A = ℕ} 11 32)
          (omega (arith, length-drop 64 text, f.two_lines)) (inked_spaces 11) (inked_drop 64 text ink) in
          rw (lt-leb (length text) 64 (omega arith)) (lines_append one two)
    ]
