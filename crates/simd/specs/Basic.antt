-- The two families, and the words for lists and sums that the other definitions use.
use Rattle.std.specs.Prelude.{Bool, true, false, cond, ◌||◌, List, [], ◌∷◌, ℕ, zero, suc, ◌+◌, ◌*◌, ◌/◌, ◌%◌, ◌^◌, leb, eqb, length, get_or}

-- Section 1.2: SIMD-256 and its truncations are the small family, SIMD-512 and its truncations the large one.
pub data Family : Type 0 where
  small : Family
  large : Family

-- R: the rows of a state.
abbrev pub rows : Family → ℕ
rows small = 4
rows large = 8

-- A block, and a state, has 16 R bytes, which are 128 R bits or 4 R words.
abbrev pub block_bytes : Family → ℕ
block_bytes f = 16 * rows f

abbrev pub block_bits : Family → ℕ
block_bits f = 128 * rows f

abbrev pub state_words : Family → ℕ
state_words f = 4 * rows f

-- The transform has 32 R values.
abbrev pub points : Family → ℕ
points f = 32 * rows f

-- The widths of a digest, in bits (elsewhere: digest sizes), and the family of each.
abbrev pub is_width : ℕ → Bool
is_width width = eqb width 224 || eqb width 256 || eqb width 384 || eqb width 512

abbrev pub family_of : ℕ → Family
family_of width = cond (leb width 256) small large

-- The bytes of a digest.
abbrev pub digest_bytes : ℕ → ℕ
digest_bytes width = width / 8

-- The list g 0, g 1, .., g (n - 1).
unfoldable pub table {ℓ} : {A : Type ℓ} → ℕ → (ℕ → A) → List A
table zero g = []
table (suc n) g = g zero ∷ table n (λ k. g (suc k))

-- The sum g 0 + g 1 + .. + g (n - 1).
unfoldable pub sum : ℕ → (ℕ → ℕ) → ℕ
sum zero g = 0
sum (suc n) g = sum n g + g n

-- Word i of a byte string, low byte first, and the n first words (section 1.2.6).
unfoldable pub word_at : List ℕ → ℕ → ℕ
word_at bytes i = sum 4 (λ t. get_or bytes (4 * i + t) 0 * 256 ^ t)

unfoldable pub words_of : ℕ → List ℕ → List ℕ
words_of n bytes = table n (word_at bytes)

-- The bytes of a string of words, low byte first.
unfoldable pub bytes_of : List ℕ → List ℕ
bytes_of words = table (4 * length words) (λ j. get_or words (j / 4) 0 / 256 ^ (j % 4) % 256)
