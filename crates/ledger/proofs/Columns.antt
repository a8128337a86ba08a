-- How long the parts of a line are, and what holds of an entry that is not refused.
use mathlib.Core.Bool.{Bool, true, false, cond}
use mathlib.Core.List.{List, [], ◌∷◌, ◌++◌}
use mathlib.Core.Path.{◌≡◌}
use Prim.Native.Nat.{ℕ, ◌+◌, ◌*◌, ◌-◌, ◌≤◌, ◌<◌}
use native.Mathlib.Omega.{arith}
use native.Mathlib.Decide.{dec_le}
use borrow.Author.Tests.{le-leb, lt-leb, eqb-true, leb-true}
use lib.Dec.{leb, eqb, lit<}
use lib.ListN.{length, take, drop, length-append, length-replicate, length-take, length-drop}
use Rattle.simd.specs.Basic.{is_width, digest_bytes}
use Rattle.text.specs.Text.{decimal, hex}
use Rattle.text.proofs.Words.{length_hex, length_decimal}
use Rattle.hash.proofs.Feeding.{at_widths}
use Rattle.hash.proofs.Digests.{digest_bounds}
use Rattle.hash.proofs.Refusing.{passed}
use Rattle.ledger.specs.Page.{spaces, right, left, line, number_columns, width_columns, front, entry_lines, entry_bytes, entry_refusal}

-- A text that fits fills its columns.
pub length_right : (k : ℕ) (text : List ℕ) → length text ≤ k → length (right k text) ≡ k
unfolding right
length_right k text fits =
    omega (arith, length-append (spaces (k - length text)) text, length-replicate {A = ℕ} (k - length text) 32)

pub length_left : (k : ℕ) (text : List ℕ) → length text ≤ k → length (left k text) ≡ k
unfolding left
length_left k text fits =
    omega (arith, length-append text (spaces (k - length text)), length-replicate {A = ℕ} (k - length text) 32)

pub length_line : (first digits : List ℕ) → length first ≡ 11 → length digits ≤ 64 → length (line first digits) ≡ 76
unfolding line
length_line first digits eleven fits =
    omega (
      arith,
      length-append (first ++ left 64 digits) (10 ∷ []),
      length-append first (left 64 digits),
      length_left 64 digits fits,
    )

pub length_number : (number : ℕ) → number < 1000000 → length (number_columns number) ≡ 6
unfolding number_columns
length_number number below = length_right 6 _ (length_decimal 6 _ (omega arith) (omega arith))

pub length_width : (width : ℕ) → width < 1000 → length (width_columns width) ≡ 3
unfolding width_columns
length_width width below = length_right 3 _ (length_decimal 3 _ (omega arith) (omega arith))

-- What holds of an entry that is not refused.
pub record Facts (number width : ℕ) (digest : List ℕ) : Type 0 where
  pub known : is_width width ≡ true
  pub size : length digest ≡ digest_bytes width
  pub number_short : length (decimal number) ≤ 6
  pub width_short : length (decimal width) ≤ 3
  pub number_below : number < 1000000
  pub width_below : width < 1000
  pub two_lines : length (hex digest) ≤ 128

width_small : (width : ℕ) → is_width width ≡ true → width < 1000
width_small = at_widths (λ (w : ℕ). w < 1000) (lit< tt) (lit< tt) (lit< tt) (lit< tt)

pub facts : (number width : ℕ) (digest : List ℕ) → entry_refusal number width digest ≡ 0 → Facts number width digest
unfolding entry_refusal
facts number width digest none =
    let one = passed (is_width width) _ 0 none in
    let two = passed (eqb (length digest) (digest_bytes width)) _ 6 one.1 in
    let three = passed (leb number 999999) 0 13 two.1 in
    let size : length digest ≡ digest_bytes width = eqb-true (length digest) (digest_bytes width) two.0 in
    let low : number ≤ 999999 = leb-true number 999999 three.0 in
    let narrow = width_small width one.0 in
    record {
      known = one.0;
      size = size;
      number_short = length_decimal 6 number (omega arith) (omega arith);
      width_short = length_decimal 3 width (omega arith) (omega arith);
      number_below = omega arith;
      width_below = narrow;
      two_lines = omega (arith, length_hex digest, (digest_bounds width one.0).0);
    }

module _ (number width : ℕ) (digest : List ℕ) (f : Facts number width digest) where
  pub length_front : length (front number width) ≡ 11
  unfolding front
  length_front =
      let n = number_columns number in
      let w = width_columns width in
      omega (
        arith,
        length-append (n ++ (32 ∷ []) ++ w) (32 ∷ []),
        length-append (n ++ (32 ∷ [])) w,
        length-append n (32 ∷ []),
        length_number number f.number_below,
        length_width width f.width_below,
      )

  pub first_line_lem : length (line (front number width) (take 64 (hex digest))) ≡ 76
  first_line_lem = length_line (front number width) (take 64 (hex digest)) length_front (omega (arith, length-take 64 (hex digest)))

  pub second_line : length (line (spaces 11) (drop 64 (hex digest))) ≡ 76
  second_line = length_line (spaces 11) (drop 64 (hex digest)) (length-replicate {A = ℕ} 11 32) (omega (arith, length-drop 64 (hex digest), f.two_lines))

  -- An entry has exactly its bytes.
  pub length_entry : length (entry_lines number width digest) ≡ entry_bytes width
  unfolding entry_lines entry_bytes
  length_entry =
      let one = line (front number width) (take 64 (hex digest)) in
      let two = line (spaces 11) (drop 64 (hex digest)) in
      let same : 2 * digest_bytes width ≡ length (hex digest) = omega (arith, length_hex digest, f.size) in
      elim (dec_le (length (hex digest)) 64) [
        | yes few ↦
            rw (same, le-leb (length (hex digest)) 64 few) (omega (arith, length-append one [], first_line_lem))
        | no many ↦
            rw (same, lt-leb (length (hex digest)) 64 (omega arith)) (omega (arith, length-append one two, first_line_lem, second_line))
      ]

one_or_two : (b : Bool) → 76 ≤ cond b 76 152
one_or_two true = omega arith
one_or_two false = omega arith

pub one_at_least : (width : ℕ) → 76 ≤ entry_bytes width
unfolding entry_bytes
one_at_least width = one_or_two (leb (2 * digest_bytes width) 64)
