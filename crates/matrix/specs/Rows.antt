-- The rows of a string of words.
use Rattle.std.specs.Prelude.{List, ℕ, ◌+◌, ◌*◌, get_or}
use Rattle.simd.specs.Basic.{table}

-- Row i of r words.
unfoldable pub row : ℕ → List ℕ → ℕ → List ℕ
row r words i = table r (λ j. get_or words (r * i + j) 0)
