-- When a width, a bit length, a state and a tail are those of an open hash.
use Rattle.std.specs.Prelude.{Bool, ◌&&◌, List, ℕ, ◌%◌, drop}
use Rattle.simd.specs.Basic.{family_of, is_width, block_bits, state_words}
use Rattle.bits.specs.Zero.{all_zero, clear}

-- One of the four widths, with no bit set past the family's state, block or tail.
abbrev pub legal_parts : ℕ → ℕ → List ℕ → List ℕ → Bool
legal_parts width bits state tail =
    is_width width && (all_zero (drop (state_words (family_of width)) state) && clear (bits % block_bits (family_of width)) tail)
