-- The 32 steps of a block, forward and back, and the bytes of the state that they reach from those of a state.
use Rattle.std.specs.Prelude.{Bool, true, false, List, ℕ}
use Rattle.simd.specs.Basic.{Family, state_words, words_of, bytes_of}
use Rattle.simd.specs.Expansion.{expanded}
use Rattle.simd.specs.Steps.{State, words, state, steps}
use Rattle.unsteps.specs.Unstep.{unsteps}

unfoldable pub turned : Bool → Family → List (List ℕ) → State → State
turned false f w s = steps f w 32 s
turned true f w s = unsteps f w 32 s

unfoldable pub moved : Bool → Family → Bool → List ℕ → List ℕ → List ℕ
moved back f last start block =
    bytes_of (words (turned back f (expanded f last block) (state f (words_of (state_words f) start))))
