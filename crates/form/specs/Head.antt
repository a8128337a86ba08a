-- What a stored form and an index start with, their head: a width in 2 bytes, and a bit length.
use Rattle.std.specs.Prelude.{List, ◌++◌, ℕ, ◌+◌, drop}
use Rattle.little_endian.specs.Numbers.{little_endian, number}

-- The bytes of the bit length, and of both.
abbrev pub length_bytes : ℕ
length_bytes = 8

abbrev pub head_bytes : ℕ
head_bytes = 2 + length_bytes

abbrev pub head : ℕ → ℕ → List ℕ
head width bits = little_endian 2 width ++ little_endian length_bytes bits

unfoldable pub form_width : List ℕ → ℕ
form_width form = number 2 form

unfoldable pub form_bits : List ℕ → ℕ
form_bits form = number length_bytes (drop 2 form)
