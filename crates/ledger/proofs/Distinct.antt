-- What the bytes of a page say of its first entry: the number and the width by their columns, and by the digest's length its digits.
use mathlib.Core.Bool.{cond}
use mathlib.Core.List.{List, [], ◌∷◌, ◌++◌, append_assoc, append-nil}
use mathlib.Core.Path.{◌≡◌, refl, sym, ap, ◌∙◌}
use Prim.Native.Nat.{ℕ, ◌+◌, ◌-◌, ◌≤◌}
use native.Mathlib.Omega.{arith}
use native.Mathlib.Decide.{dec_le}
use borrow.Author.Tests.{lt-leb}
use lib.Dec.{leb}
use lib.ListN.{length, take, drop, length-drop, length-take, length-replicate, take-append-drop}
use lib.Seq.{take_at, drop_at, drop-drop, take_all, length-take-le}
use Rattle.text.specs.Text.{hex}
use Rattle.ledger.specs.Page.{spaces, left, line, number_columns, width_columns, front, entry_lines}
use Rattle.ledger.proofs.Columns.{Facts, length_left, length_number, length_width}
use Rattle.ledger.proofs.Reading.{value, number_told, width_told}

-- What stands in columns 1 to 6 and 8 to 10 of the first line.
abbrev pub number_in : List ℕ → ℕ
number_in text = value 0 (take 6 text)

abbrev pub width_in : List ℕ → ℕ
width_in text = value 0 (take 3 (drop 7 text))

-- So many digits from the last 64 columns of the first line and of the second.
abbrev pub digits_in : ℕ → List ℕ → List ℕ
digits_in count text = take count (take 64 (drop 11 text) ++ take 64 (drop 87 text))

-- A text behind k columns and one byte more.
behind : (k : ℕ) (a : List ℕ) (c : ℕ) (b : List ℕ) → length a ≡ k → drop (k + 1) (a ++ c ∷ b) ≡ b
behind k a c b size = sym (drop-drop 1 k (a ++ c ∷ b)) ∙ ap (drop 1) (drop_at a (c ∷ b) k size)

-- A text that fills its columns.
left_full : (k : ℕ) (text : List ℕ) → length text ≡ k → left k text ≡ text
unfolding left
left_full k text full =
    let none : k - length text ≡ 0 = omega arith in
    ap (λ (n : ℕ). text ++ spaces n) none ∙ append-nil text

module _ (number width : ℕ) (digest : List ℕ) (f : Facts number width digest) (rest : List ℕ) where
  abbrev n : List ℕ
  n = number_columns number

  abbrev w : List ℕ
  w = width_columns width

  abbrev text : List ℕ
  text = entry_lines number width digest ++ rest

  -- The columns for digits of the first line, and what comes behind that line.
  abbrev columns : List ℕ
  columns = left 64 (take 64 (hex digest))

  abbrev second : List ℕ
  second = cond (leb (length (hex digest)) 64) [] (line (spaces 11) (drop 64 (hex digest)))

  spread : text ≡ n ++ 32 ∷ (w ++ 32 ∷ (columns ++ 10 ∷ (second ++ rest)))
  unfolding entry_lines line front
  spread = simp append_assoc

  six : length n ≡ 6
  six = length_number number f.number_below

  three : length w ≡ 3
  three = length_width width f.width_below

  all : length columns ≡ 64
  all = length_left 64 (take 64 (hex digest)) (omega (arith, length-take 64 (hex digest)))

  from_7 : drop 7 text ≡ w ++ 32 ∷ (columns ++ 10 ∷ (second ++ rest))
  from_7 = ap (drop 7) spread ∙ behind 6 n 32 (w ++ 32 ∷ (columns ++ 10 ∷ (second ++ rest))) six

  from_11 : drop 11 text ≡ columns ++ 10 ∷ (second ++ rest)
  from_11 = sym (drop-drop 4 7 text) ∙ ap (drop 4) from_7 ∙ behind 3 w 32 (columns ++ 10 ∷ (second ++ rest)) three

  from_76 : drop 76 text ≡ second ++ rest
  from_76 = sym (drop-drop 65 11 text) ∙ ap (drop 65) from_11 ∙ behind 64 columns 10 (second ++ rest) all

  pub number_read : number_in text ≡ number
  number_read =
      ap (value 0) (ap (take 6) spread ∙ take_at n (32 ∷ (w ++ 32 ∷ (columns ++ 10 ∷ (second ++ rest)))) 6 six)
      ∙ number_told number f.number_below

  pub width_read : width_in text ≡ width
  width_read =
      ap (value 0) (ap (take 3) from_7 ∙ take_at w (32 ∷ (columns ++ 10 ∷ (second ++ rest))) 3 three)
      ∙ width_told width f.width_below

  first_columns : take 64 (drop 11 text) ≡ columns
  first_columns = ap (take 64) from_11 ∙ take_at columns (10 ∷ (second ++ rest)) 64 all

  -- Where there is a second line, its columns.
  second_columns : second ≡ line (spaces 11) (drop 64 (hex digest)) → take 64 (drop 87 text) ≡ left 64 (drop 64 (hex digest))
  unfolding line
  second_columns there =
      let more = left 64 (drop 64 (hex digest)) in
      let long = length_left 64 (drop 64 (hex digest)) (omega (arith, length-drop 64 (hex digest), f.two_lines)) in
      let apart : line (spaces 11) (drop 64 (hex digest)) ++ rest ≡ spaces 11 ++ (more ++ 10 ∷ rest) = simp append_assoc in
      sym (ap (take 64) (drop-drop 11 76 text))
      ∙ ap (λ (l : List ℕ). take 64 (drop 11 l)) (from_76 ∙ ap (λ (l : List ℕ). l ++ rest) there ∙ apart)
      ∙ ap (take 64) (drop_at (spaces 11) (more ++ 10 ∷ rest) 11 (length-replicate {A = ℕ} 11 32))
      ∙ take_at more (10 ∷ rest) 64 long

  one_line : length (hex digest) ≤ 64 → digits_in (length (hex digest)) text ≡ hex digest
  unfolding left
  one_line few =
      let h = hex digest in
      let more = take 64 (drop 87 text) in
      ap (λ (l : List ℕ). take (length h) (l ++ more)) (first_columns ∙ ap (left 64) (take_all 64 h few))
      ∙ ap (take (length h)) (append_assoc h (spaces (64 - length h)) more)
      ∙ take_at h (spaces (64 - length h) ++ more) (length h) refl

  pub digits_read : digits_in (length (hex digest)) text ≡ hex digest
  unfolding left
  digits_read =
      let h = hex digest in
      let gap = spaces (64 - length (drop 64 h)) in
      elim (dec_le (length h) 64) [
        | yes few ↦ one_line few
        | no many ↦
            let full = left_full 64 (take 64 h) (length-take-le 64 h (omega arith)) in
            let there : second ≡ line (spaces 11) (drop 64 h) = rw (lt-leb (length h) 64 (omega arith)) in
            (λ i. take (length h) ((first_columns ∙ full) i ++ second_columns there i))
            ∙ ap (take (length h)) (sym (append_assoc (take 64 h) (drop 64 h) gap) ∙ ap (λ (l : List ℕ). l ++ gap) (take-append-drop 64 h))
            ∙ take_at h gap (length h) refl
      ]
