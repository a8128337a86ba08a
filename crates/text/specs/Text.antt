-- Numbers and bytes as text, a list of ASCII codes.
use Rattle.std.specs.Prelude.{cond, ◌&&◌, List, [], ◌∷◌, ◌++◌, ℕ, zero, suc, ◌+◌, ◌-◌, ◌/◌, ◌%◌, ltb, leb, length, take, drop}

-- A buffer with s written at a place.
abbrev pub over : List ℕ → ℕ → List ℕ → List ℕ
over buffer at s = take at buffer ++ s ++ drop (at + length s) buffer

-- The decimal digits of a number of at most k digits, with no zero in front.
unfoldable pub digits : ℕ → ℕ → List ℕ
digits zero n = []
digits (suc k) n = cond (ltb n 10) ((48 + n) ∷ []) (digits k (n / 10) ++ ((48 + n % 10) ∷ []))

-- A number below 2^64 has at most 20.
unfoldable pub decimal : ℕ → List ℕ
decimal n = digits 20 n

-- Two hexadecimal digits a byte, in lower case.
unfoldable pub glyph : ℕ → ℕ
glyph d = cond (ltb d 10) (48 + d) (87 + d)

unfoldable pub hex : List ℕ → List ℕ
hex [] = []
hex (b ∷ bytes) = glyph (b / 16) ∷ glyph (b % 16) ∷ hex bytes

-- The value of a hexadecimal digit in lower case; 16 for any other character.
unfoldable pub digit_of : ℕ → ℕ
digit_of c = cond (leb 48 c && leb c 57) (c - 48) (cond (leb 97 c && leb c 102) (c - 87) 16)
