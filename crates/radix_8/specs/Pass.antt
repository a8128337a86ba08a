-- What the parts of the pass promise each other.
use Rattle.std.specs.Prelude.{Bool, cond, List, ◌≢◌, ◌≡◌, ℕ, ◌+◌, ◌*◌, ◌-◌, ◌%◌, ◌≤◌, ◌<◌, eqb, leb, get_or}
use Rattle.simd.specs.Expansion.{power}
use Rattle.transform_stages.specs.Stage.{part, Within}

-- What the last n of the numbers that are transformed hold: 1 at the last place, and in a length block 1 at the last but two.
unfoldable pub appended : ℕ → Bool → ℕ → ℕ
appended n last i = cond (eqb (i + 1) n) 1 0 + cond last (cond (eqb (i + 3) n) 1 0) 0

-- The 8 m numbers that are transformed: the 4 m bytes of the block, 3 m zeros, and the m numbers of the last eighth.
unfoldable pub held : ℕ → List ℕ → List ℕ → ℕ → ℕ
held m b ends j = get_or b j 0 + cond (leb (7 * m) j) (get_or ends (j - 7 * m) 0) 0

-- Value k of the numbers a, b, c, d by the root 41^32 of order 8.
unfoldable pub four : ℕ → ℕ → ℕ → ℕ → ℕ → ℕ
four k a b c d = a + b * power 41 (32 * k) + c * power 41 (64 * k) + d * power 41 (96 * k)

-- The list r has every second value of a, b, c, d from the first on. The five stages to come can subtract 512 each.
pub record Values (first a b c d : ℕ) (r : List ℕ) : Type 0 where
  pub value : (j : ℕ) → j < 4 → get_or r j 0 % 257 ≡ four (2 * j + first) a b c d % 257
  pub within : Within 4 2570 45000 r

-- In y' the four numbers v stand at places that are a gap apart, and all else is as in y.
pub record Spread (at gap : ℕ) (v y y' : List ℕ) : Type 0 where
  pub here : (j : ℕ) → j < 4 → get_or y' (at + gap * j) 0 ≡ get_or v j 0
  pub others : (p : ℕ) → ((j : ℕ) → j < 4 → p ≢ at + gap * j) → get_or y' p 0 ≡ get_or y p 0

-- In y, where the places of a value stand side by side, place q has its eight values.
pub record Placed (m : ℕ) (b ends y : List ℕ) (q : ℕ) : Type 0 where
  pub value : (k : ℕ) → k < 8 → get_or y (k * m + q) 0 % 257 ≡ part (held m b ends) 32 m 8 k q % 257
  pub within : (k : ℕ) → k < 8 → (2570 ≤ get_or y (k * m + q) 0) × (get_or y (k * m + q) 0 ≤ 45000)
