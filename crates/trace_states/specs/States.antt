-- The states between the steps of a compression.
use Rattle.std.specs.Prelude.{Bool, ℕ, suc, ◌*◌}
use mathlib.Core.List.{List, [], ◌∷◌, ◌++◌, flatten}
use Rattle.simd.specs.Basic.{Family, rows, table, words_of}
use Rattle.simd.specs.Expansion.{expanded}
use Rattle.simd.specs.Steps.{State, words, state, steps, mixed}

-- The words of a state of 16 R bytes, and the 36 rows of words that the steps of a compression take: those of the expanded block, and the
-- columns of the old state.
unfoldable pub old_words : Family → List ℕ → List ℕ
old_words f old = words_of (4 * rows f) old

unfoldable pub step_rows : Family → Bool → List ℕ → List ℕ → List (List ℕ)
step_rows f last old block =
    let h = state f (old_words f old) in
    expanded f last block ++ (h.a ∷ h.b ∷ h.c ∷ h.d ∷ [])

-- The state after the first n steps.
unfoldable pub state_after : Family → Bool → List ℕ → List ℕ → ℕ → State
state_after f last old block n = steps f (step_rows f last old block) n (state f (mixed f (old_words f old) block))

-- The words of the states after step 0, after step 1 and so on to step 35.
unfoldable pub state_words : Family → Bool → List ℕ → List ℕ → List ℕ
state_words f last old block = flatten (table 36 (λ i. words (state_after f last old block (suc i))))
