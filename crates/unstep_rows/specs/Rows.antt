-- Words of the state before a step.
use Rattle.std.specs.Prelude.{ℕ, ◌+◌, ◌-◌, ◌%◌, ◌^◌, List, bit_xor, slice_index}
use Rattle.simd.specs.Steps.{rotl, choose}

-- Difference of words, and rotation to the right.
unfoldable pub sub : ℕ → ℕ → ℕ
sub x y = (x + (2 ^ 32 - y % 2 ^ 32)) % 2 ^ 32

unfoldable pub rotr : ℕ → ℕ → ℕ
rotr s x = rotl (32 - s) x

-- Word j of A before a step from B after it, by the rotation r.
abbrev pub word_a : ℕ → List ℕ → ℕ → ℕ
word_a r b j = rotr r (slice_index b j)

-- Word j of D before step i, of n rows, from the columns after it, A before it and the words w, by the rotation s and the row exchange x.
abbrev pub word_d : ℕ → ℕ → ℕ → ℕ → List ℕ → List ℕ → List ℕ → List ℕ → List ℕ → List ℕ → ℕ → ℕ
word_d n i s x a b c d old w j =
    sub (sub (rotr s (sub (slice_index a j) (slice_index b (bit_xor j x % n)))) (choose i (slice_index old j) (slice_index c j) (slice_index d j))) (slice_index w j)
