-- What the calls leave in the lent numbers.
use Rattle.std.specs.Prelude.{Bool, cond, List, ◌++◌, ℕ, ◌*◌, ◌/◌, eqb, length, drop}
use Rattle.simd.specs.Basic.{Family, family_of, points, rows}
use Rattle.expansion.specs.Call.{expand_refusal}
use Rattle.stepping.specs.Call.{steps_refusal}
use Rattle.trace_states.specs.States.{state_words}

-- The lent numbers afterwards: those traced and the remaining ones as they were, or all as they were.
unfoldable pub traced : (Family → Bool → List ℕ → List ℕ) → ℕ → Bool → List ℕ → List ℕ → List ℕ
traced what width last block out =
    cond (eqb (expand_refusal width (length block) (length out)) 0)
    (what (family_of width) last block ++ drop (points (family_of width)) out)
    out

-- Refused as the calls that run the steps are; 36 states of 4 R words are 9 times 16 R words.
unfoldable pub states_refusal : ℕ → ℕ → ℕ → ℕ → ℕ
states_refusal width state block room = steps_refusal width state block (room / 9)

-- The lent words afterwards: those of the states and the remaining ones as they were, or all as they were.
unfoldable pub traced_states : ℕ → Bool → List ℕ → List ℕ → List ℕ → List ℕ
traced_states width last old block out =
    cond (eqb (states_refusal width (length old) (length block) (length out)) 0)
    (state_words (family_of width) last old block ++ drop (144 * rows (family_of width)) out)
    out
