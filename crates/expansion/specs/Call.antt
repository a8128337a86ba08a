-- The call that expands one block: its refusal, and what it leaves in the lent words.
use Rattle.std.specs.Prelude.{Bool, cond, ℕ, ◌*◌, leb, eqb, length, drop}
use mathlib.Core.List.{List, ◌++◌, flatten}
use Rattle.simd.specs.Basic.{Family, rows, block_bytes, is_width, family_of}
use Rattle.simd.specs.Expansion.{expanded}

-- An expanded block has 32 rows of R words.
abbrev pub expanded_words : Family → ℕ
expanded_words f = 32 * rows f

-- The refusal's number, 0 where nothing is refused: 1 for an unknown width, then 7 for a block of another size, then 6 for too few words.
unfoldable pub size_refusal : ℕ → ℕ → ℕ → ℕ → ℕ
size_refusal block words bytes room = cond (eqb bytes block) (cond (leb words room) 0 6) 7

unfoldable pub expand_refusal : ℕ → ℕ → ℕ → ℕ
expand_refusal width bytes room =
    cond (is_width width) (size_refusal (block_bytes (family_of width)) (expanded_words (family_of width)) bytes room) 1

-- The lent words afterwards: the expanded rows one after another and the remaining words as they were, or all as they were.
unfoldable pub expand_output : ℕ → Bool → List ℕ → List ℕ → List ℕ
expand_output width last block out =
    cond (eqb (expand_refusal width (length block) (length out)) 0)
    (flatten (expanded (family_of width) last block) ++ drop (expanded_words (family_of width)) out)
    out
