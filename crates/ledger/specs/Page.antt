-- A page for the ledger binder, byte by byte, in ASCII: 32 is a space and 10 ends a line. Each line has 75 columns before its end.
use Rattle.std.specs.Prelude.{cond, List, [], ◌∷◌, ◌++◌, ℕ, ◌*◌, ◌-◌, leb, eqb, length, take, drop, replicate}
use Rattle.simd.specs.Basic.{is_width, digest_bytes}
use Rattle.text.specs.Text.{decimal, hex}
use Rattle.hash.specs.Open.{first}

abbrev pub spaces : ℕ → List ℕ
spaces k = replicate k 32

-- A text at the right end of k columns, with spaces in front of it.
unfoldable pub right : ℕ → List ℕ → List ℕ
right k text = spaces (k - length text) ++ text

-- A text at the left end of k columns, with spaces behind it.
unfoldable pub left : ℕ → List ℕ → List ℕ
left k text = text ++ spaces (k - length text)

-- A line: its first 11 columns, 64 columns for hexadecimal digits, and its end.
unfoldable pub line : List ℕ → List ℕ → List ℕ
line margin digits = margin ++ left 64 digits ++ (10 ∷ [])

-- The number in 6 columns, and the width in 3.
unfoldable pub number_columns : ℕ → List ℕ
number_columns number = right 6 (decimal number)

unfoldable pub width_columns : ℕ → List ℕ
width_columns width = right 3 (decimal width)

-- The first 11 columns of an entry: its number, a space, its width, a space.
unfoldable pub front : ℕ → ℕ → List ℕ
front number width = number_columns number ++ (32 ∷ []) ++ width_columns width ++ (32 ∷ [])

-- The lines of an entry. Digits that are more than 64 columns hold go on in a second line, whose first 11 columns are spaces.
unfoldable pub entry_lines : ℕ → ℕ → List ℕ → List ℕ
entry_lines number width digest =
    let digits = hex digest in
    line (front number width) (take 64 digits) ++ cond (leb (length digits) 64) [] (line (spaces 11) (drop 64 digits))

-- The bytes of an entry's lines: 76 a line, two hexadecimal digits for each byte of a digest.
unfoldable pub entry_bytes : ℕ → ℕ
entry_bytes width = cond (leb (2 * digest_bytes width) 64) 76 152

-- An entry, and a page: the lines of its entries in turn.
pub record Entry : Type 0 where
  pub number : ℕ
  pub width : ℕ
  pub digest : List ℕ

unfoldable pub page : List Entry → List ℕ
page [] = []
page (e ∷ entries) = entry_lines e.number e.width e.digest ++ page entries

-- An entry: 1 where there is no such width, 7 where its digest is shorter or longer than the width asks, 14 where its number is above 999,999.
unfoldable pub entry_refusal : ℕ → ℕ → List ℕ → ℕ
entry_refusal number width digest =
    cond (is_width width) (cond (eqb (length digest) (digest_bytes width)) (cond (leb number 999999) 0 14) 7) 1

-- Printed into a buffer of so many bytes: as above, then 6 where the buffer is shorter than the lines.
unfoldable pub print_refusal : ℕ → ℕ → List ℕ → ℕ → ℕ
print_refusal number width digest room = first (entry_refusal number width digest) (cond (leb (entry_bytes width) room) 0 6)
