-- A state's words in the published order, from an array of its columns.
use Rattle.std.specs.Prelude.{List, [], ℕ, ◌/◌, ◌%◌, get_or}
use Rattle.simd.specs.Basic.{Family, rows, state_words, table}

unfoldable pub flat : Family → List (List ℕ) → List ℕ
flat f s = table (state_words f) (λ k. get_or (get_or s (k / rows f) []) (k % rows f) 0)
