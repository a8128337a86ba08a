-- Runs of steps.
use Rattle.std.specs.Prelude.{ℕ, zero, suc, ◌+◌, List, [], slice_index_or}
use Rattle.simd.specs.Basic.{Family}
use Rattle.simd.specs.Steps.{State, step}
use Rattle.words.specs.Columns.{stepped}

-- Steps i to i + n - 1 on a state as its columns, step k with row k of w.
unfoldable pub run : Family → List (List ℕ) → ℕ → ℕ → List (List ℕ) → List (List ℕ)
run f w i zero l = l
run f w i (suc n) l = stepped f (i + n) (slice_index_or w (i + n) []) (run f w i n l)

-- Steps 32 to 35, with the columns of the old state h as words.
unfoldable pub last_steps : Family → State → State → State
last_steps f h s = step f 35 h.d (step f 34 h.c (step f 33 h.b (step f 32 h.a s)))
