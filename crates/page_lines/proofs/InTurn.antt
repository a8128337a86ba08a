-- The columns written one after another are the entry's lines.
use mathlib.Core.List.{List, [], ◌∷◌, ◌++◌, append_assoc, append-nil}
use mathlib.Core.Path.{◌≡◌, refl, sym, ap, ◌∙◌}
use Prim.Native.Nat.{ℕ, ◌+◌, ◌-◌, ◌/◌, ◌%◌, ◌≤◌, ◌<◌}
use native.Mathlib.Omega.{arith}
use borrow.Author.Tests.{le-leb, lt-leb}
use lib.ListN.{length, take, drop, length-append, length-take, length-drop, length-replicate, take-append-drop}
use lib.Seq.{take_at, drop_at, take_all, length-take-le}
use Rattle.text.specs.Text.{over, decimal, glyph, hex}
use Rattle.text.proofs.Over.{Wrote, wrote_more}
use Rattle.text.proofs.Words.{length_hex}
use Rattle.ledger.specs.Page.{spaces, right, left, line, number_columns, width_columns, front, entry_lines}
use Rattle.ledger.proofs.Columns.{length_right, length_left, length_front}
use Rattle.page_lines.proofs.Accepted.{Accepted, one_line_bytes, two_line_bytes}

-- A column with the space behind it, and the digits of a line with its end.
abbrev column : ℕ → ℕ → List ℕ
column k n = right k (decimal n) ++ (32 ∷ [])

abbrev digit_columns : List ℕ → List ℕ
digit_columns bytes = left 64 (hex bytes) ++ (10 ∷ [])

column_length : (k n : ℕ) → length (decimal n) ≤ k → length (column k n) ≡ k + 1
column_length k n fits = omega (arith, length-append (right k (decimal n)) (32 ∷ []), length_right k (decimal n) fits)

digits_length : (bytes : List ℕ) → length bytes ≤ 32 → length (digit_columns bytes) ≡ 65
digits_length bytes few =
    omega (arith, length-append (left 64 (hex bytes)) (10 ∷ []), length_left 64 (hex bytes) (omega (arith, length_hex bytes)))

-- The first 11 columns: the number's, then the width's.
pub front_written : (t x y : List ℕ) (number width m n : ℕ) → length (decimal number) ≤ 6 → length (decimal width) ≤ 3 → 11 ≤ length t
    → x ≡ over t 0 (column 6 number) → m ≡ 0 + 6 + 1 → y ≡ over x m (column 3 width) → n ≡ m + 3 + 1
    → (y ≡ over t 0 (front number width)) × (n ≡ 11)
unfolding front number_columns width_columns
front_written t x y number width m n short narrow fits one place two next =
    let w : Wrote t (column 6 number) x m = record { buffer = one; place = omega (arith, column_length 6 number short) } in
    let both = wrote_more {n = n} w (column 3 width) two (omega (arith, column_length 3 width narrow)) (omega arith) in
    let same : column 6 number ++ column 3 width ≡ front number width = simp append_assoc in (
      both.buffer ∙ ap (over t 0) same,
      omega arith,
    )

hex_append : (a b : List ℕ) → hex (a ++ b) ≡ hex a ++ hex b
unfolding hex
hex_append [] b = refl
hex_append (x ∷ a) b = ap {B = List ℕ} (λ (l : List ℕ). glyph (x / 16) ∷ glyph (x % 16) ∷ l) (hex_append a b)

-- The digits of the first 32 bytes are the first 64, and those of the others the others.
module _ (bytes : List ℕ) (many : 32 ≤ length bytes) where
  halves : hex bytes ≡ hex (take 32 bytes) ++ hex (drop 32 bytes)
  halves = ap hex (sym (take-append-drop 32 bytes)) ∙ hex_append (take 32 bytes) (drop 32 bytes)

  first_half : length (hex (take 32 bytes)) ≡ 64
  first_half = omega (arith, length_hex (take 32 bytes), length-take-le 32 bytes many)

  hex_first : hex (take 32 bytes) ≡ take 64 (hex bytes)
  hex_first = sym (ap (take 64) halves ∙ take_at (hex (take 32 bytes)) (hex (drop 32 bytes)) 64 first_half)

  hex_rest : hex (drop 32 bytes) ≡ drop 64 (hex bytes)
  hex_rest = sym (ap (drop 64) halves ∙ drop_at (hex (take 32 bytes)) (hex (drop 32 bytes)) 64 first_half)

module _ (t x : List ℕ) (number width at : ℕ) (digest : List ℕ) (a : Accepted number width digest (length t))
    (fronted : x ≡ over t 0 (front number width)) (behind : at ≡ 11) where
  begun : Wrote t (front number width) x at
  begun = record { buffer = fronted; place = behind ∙ sym (length_front number width digest a.facts) }

  -- All digits on one line.
  pub one_line : (y : List ℕ) → length digest ≤ 32 → y ≡ over x at (digit_columns digest) → y ≡ over t 0 (entry_lines number width digest)
  unfolding entry_lines line
  one_line y few wrote =
      let size : length (hex digest) ≤ 64 = omega (arith, length_hex digest) in
      let room : 11 ≤ length t = omega (arith, a.enough, one_line_bytes width (omega (arith, a.facts.size))) in
      let done = wrote_more begun (digit_columns digest) wrote refl (omega arith) in
      let same : front number width ++ digit_columns digest ≡ entry_lines number width digest =
      rw (le-leb (length (hex digest)) 64 size, take_all 64 (hex digest) size) (simp (append_assoc, append-nil)) in
      done.buffer ∙ ap (over t 0) same

  -- The room for two lines.
  pub two_rooms : 32 < length digest → 152 ≤ length t
  two_rooms many = omega (arith, a.enough, two_line_bytes width (omega (arith, a.facts.size)))

  pub two_lines : (y z u : List ℕ) (second rest : ℕ) → 32 < length digest
      → y ≡ over x at (digit_columns (take 32 digest)) → second ≡ at + 65
      → z ≡ over y second (spaces 11) → rest ≡ second + 11
      → u ≡ over z rest (digit_columns (take (length digest - 32) (drop 32 digest)))
      → u ≡ over t 0 (entry_lines number width digest)
  unfolding entry_lines line
  two_lines y z u second rest many first next blank then last =
      let h = hex digest in
      let size : 64 < length h = omega (arith, length_hex digest) in
      let room = two_rooms many in
      let short = digits_length (take 32 digest) (omega (arith, length-take 32 digest)) in
      let one = wrote_more {n = second} begun (digit_columns (take 32 digest)) first (omega arith) (omega arith) in
      let two = wrote_more {n = rest} one (spaces 11) blank (omega (arith, length-replicate {A = ℕ} 11 32)) (omega arith) in
      let all : take (length digest - 32) (drop 32 digest) ≡ drop 32 digest =
      take_all (length digest - 32) (drop 32 digest) (omega (arith, length-drop 32 digest)) in
      let three = wrote_more two (digit_columns (drop 32 digest)) (last ∙ ap (λ (l : List ℕ). over z rest (digit_columns l)) all) refl (omega arith) in
      let same : front number width ++ digit_columns (take 32 digest) ++ spaces 11 ++ digit_columns (drop 32 digest) ≡ entry_lines number width digest =
      rw (hex_first digest (omega arith), hex_rest digest (omega arith), lt-leb (length h) 64 size) (simp append_assoc) in
      three.buffer ∙ ap (over t 0) same
