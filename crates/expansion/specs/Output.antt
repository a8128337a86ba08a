-- The shape of an expanded block.
use Rattle.std.specs.Prelude.{List, [], ◌≡◌, ℕ, ◌<◌, length, get_or}

-- 32 rows of r words.
pub record IsRows (r : ℕ) (rows : List (List ℕ)) : Type 0 where
  pub count : length rows ≡ 32
  pub width : (k : ℕ) → k < 32 → length (get_or rows k []) ≡ r
