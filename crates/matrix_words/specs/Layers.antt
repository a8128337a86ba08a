-- The parts in which the matrix Z is worked out. Each is a function on places: a list of n of them is `table n` of it.
use Rattle.std.specs.Prelude.{cond, List, ◌++◌, ◌≡◌, ℕ, ◌+◌, ◌*◌, ◌-◌, ◌/◌, ◌%◌, ◌^◌, ◌<◌, ltb, length, get_or}
use Rattle.simd.specs.Basic.{table}
use Rattle.simd.specs.Expansion.{pair}

-- The word of codes 2 k and 2 k + 1, the low half first.
unfoldable pub neighbours : List ℕ → ℕ → ℕ
neighbours codes k = get_or codes (2 * k) 0 + 65536 * get_or codes (2 * k + 1) 0

-- One half of a word: the low half for shift 0, the high one for shift 16.
unfoldable pub half : ℕ → ℕ → ℕ
half shift word = word / 2 ^ shift % 65536

-- The word of the same halves of words k and k + n.
unfoldable pub halves_apart : ℕ → ℕ → List ℕ → ℕ → ℕ
halves_apart n shift words k = half shift (get_or words k 0) + 65536 * half shift (get_or words (k + n) 0)

-- The low halves and then the high halves of 2 q words, as 2 q words.
unfoldable pub lower : ℕ → List ℕ → List ℕ
lower q words = table q (halves_apart q 0 words) ++ table q (halves_apart q 16 words)

-- Word k of Z, counted through its rows. A quarter of its words is q = 8 R: rows 0 to 15 are two quarters, rows 16 to 23 and rows 24 to 31 one each.
unfoldable pub flat : ℕ → (ℕ → ℕ) → ℕ → ℕ
flat q y k =
    cond (ltb k (2 * q)) (pair 185 (y (2 * k)) (y (2 * k + 1)))
    (cond (ltb k (3 * q)) (pair 233 (y (2 * (k - 2 * q))) (y (2 * (k - 2 * q) + 2 * q)))
    (pair 233 (y (2 * (k - 3 * q) + 1)) (y (2 * (k - 3 * q) + 1 + 2 * q))))

-- Values y below 257, and buffers for codes, pairs of codes and words of Z, where a quarter of the words is q: a multiple of 32, so that the
-- values are parts of 128.
pub record Buffers (q : ℕ) (y by185 by233 pairs words : List ℕ) : Type 0 where
  pub parts : q % 32 ≡ 0
  pub values : length y ≡ 4 * q
  pub below : (k : ℕ) → get_or y k 0 < 257
  pub first : length by185 ≡ 4 * q
  pub second : length by233 ≡ 4 * q
  pub joined : length pairs ≡ 2 * q
  pub output : length words ≡ 4 * q
