-- The inner code of all values.
use Rattle.std.specs.Prelude.{List, ◌≡◌, ℕ, ◌<◌, length, get_or}
use Rattle.simd.specs.Expansion.{code}

-- The code by c of value k.
unfoldable pub coded : ℕ → List ℕ → ℕ → ℕ
coded c y k = code c (get_or y k 0)

-- The first codes by c are made: l has a place for each value of y, and the code of each at the first `done`.
pub record Begun (c : ℕ) (y : List ℕ) (done : ℕ) (l : List ℕ) : Type 0 where
  pub size : length l ≡ length y
  pub holds : (k : ℕ) → k < done → get_or l k 0 ≡ coded c y k
