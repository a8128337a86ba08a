-- The calls that run the 32 steps, forward and backward: their refusal, and what they leave in the lent bytes.
use Rattle.std.specs.Prelude.{Bool, cond, List, ◌++◌, ℕ, leb, eqb, length, drop}
use Rattle.simd.specs.Basic.{Family, state_words, block_bytes, is_width, family_of, words_of, bytes_of}
use Rattle.simd.specs.Expansion.{expanded}
use Rattle.simd.specs.Steps.{words, state, steps}
use Rattle.unsteps.specs.Unstep.{unsteps}

-- The refusal's number, 0 where nothing is refused: 1 for an unknown width, then 7 for a state or a block of another size, then 6 for too short an output.
unfoldable pub size_refusal : ℕ → ℕ → ℕ → ℕ → ℕ
size_refusal size state block room = cond (eqb state size) (cond (eqb block size) (cond (leb size room) 0 6) 7) 7

unfoldable pub steps_refusal : ℕ → ℕ → ℕ → ℕ → ℕ
steps_refusal width state block room = cond (is_width width) (size_refusal (block_bytes (family_of width)) state block room) 1

-- The bytes of the state after the 32 steps of a block, from those of the state before them; and back.
unfoldable pub forward : Family → Bool → List ℕ → List ℕ → List ℕ
forward f last start block = bytes_of (words (steps f (expanded f last block) 32 (state f (words_of (state_words f) start))))

unfoldable pub backward : Family → Bool → List ℕ → List ℕ → List ℕ
backward f last end block = bytes_of (words (unsteps f (expanded f last block) 32 (state f (words_of (state_words f) end))))

-- The lent bytes afterwards: those of the new state and the remaining bytes as they were, or all as they were.
unfoldable pub steps_output : (Family → Bool → List ℕ → List ℕ → List ℕ) → ℕ → Bool → List ℕ → List ℕ → List ℕ → List ℕ
steps_output run width last start block out =
    cond (eqb (steps_refusal width (length start) (length block) (length out)) 0)
    (run (family_of width) last start block ++ drop (block_bytes (family_of width)) out)
    out
