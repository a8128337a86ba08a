-- Bytes put behind a tail that may end within a byte. With o bits in the tail's last byte, `scale` is 2 ^ (8 - o): a byte b goes into two,
-- b * scale / 256 into the byte that is not full, and b * scale % 256, the carry, into the next.
use Rattle.std.specs.Prelude.{cond, List, ℕ, zero, suc, ◌+◌, ◌*◌, ◌-◌, ◌/◌, ◌%◌, leb, ltb, length, get_or}

-- What goes into byte i before byte i of the source does.
unfoldable pub carry_at : ℕ → ℕ → List ℕ → ℕ → ℕ
carry_at scale carry src zero = carry
carry_at scale carry src (suc i) = get_or src i 0 * scale % 256

-- Byte i of the shifted source.
unfoldable pub shifted : ℕ → ℕ → List ℕ → ℕ → ℕ
shifted scale carry src i = (carry_at scale carry src i + get_or src i 0 * scale / 256) % 256

-- Byte j of a buffer into which the shifted source was written from place at on.
unfoldable pub with_shifted : List ℕ → ℕ → ℕ → ℕ → List ℕ → ℕ → ℕ
with_shifted buffer at scale carry src j =
    cond (ltb j at) (get_or buffer j 0) (cond (leb (j - at) (length src)) (shifted scale carry src (j - at)) (get_or buffer j 0))
