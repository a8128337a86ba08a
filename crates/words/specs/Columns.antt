-- A state as an array of its four columns, and a step by its numbers.
use Rattle.std.specs.Prelude.{ℕ, ◌+◌, ◌%◌, List, [], ◌∷◌, bit_xor, slice_index, slice_index_or}
use Rattle.simd.specs.Basic.{Family, rows, table}
use Rattle.simd.specs.Constants.{exchange}
use Rattle.simd.specs.Steps.{State, add, rotl, choose, rotation}

abbrev pub from_columns : List (List ℕ) → State
from_columns l = record { a = slice_index_or l 0 []; b = slice_index_or l 1 []; c = slice_index_or l 2 []; d = slice_index_or l 3 [] }

abbrev pub columns : State → List (List ℕ)
columns s = s.a ∷ s.b ∷ s.c ∷ s.d ∷ []

-- New B: A rotated by r.
unfoldable pub new_b : Family → ℕ → List ℕ → List ℕ
new_b f r a = table (rows f) (λ j. rotl (r % 32) (slice_index a j))

-- Word j of new A in step i from new B: the sum rotated by s, plus the word of B in the row that x gives.
abbrev pub word_a : Family → ℕ → ℕ → ℕ → List ℕ → List ℕ → List (List ℕ) → ℕ → ℕ
word_a f i s x w b l j =
    add
    (rotl (s % 32)
    (add (add (slice_index (slice_index_or l 3 []) j) (slice_index w j)) (choose i (slice_index (slice_index_or l 0 []) j) (slice_index (slice_index_or l 1 []) j) (slice_index (slice_index_or l 2 []) j))))
    (slice_index b (bit_xor j x % rows f))

unfoldable pub new_a : Family → ℕ → ℕ → ℕ → List ℕ → List ℕ → List (List ℕ) → List ℕ
new_a f i s x w b l = table (rows f) (word_a f i s x w b l)

-- The columns after step i: new A, new B, B and C.
unfoldable pub stepped : Family → ℕ → List ℕ → List (List ℕ) → List (List ℕ)
stepped f i w l =
    let b = new_b f (rotation i i) (slice_index_or l 0 []) in
    new_a f i (rotation i (i + 1)) (exchange f i) w b l ∷ b ∷ slice_index_or l 1 [] ∷ slice_index_or l 2 [] ∷ []
