-- The steps backward: the mirror of `step` and `steps`.
use Rattle.std.specs.Prelude.{List, [], ◌≡◌, ℕ, zero, suc, ◌+◌, ◌^◌, ◌<◌, length, get_or}
use Rattle.simd.specs.Basic.{Family, rows, table}
use Rattle.simd.specs.Steps.{State, choose, rotation, partner}
use Rattle.unstep_rows.specs.Rows.{sub, rotr}

-- The state before step i, from the state after it. Its A is B rotated back; its B and C are C and D.
unfoldable pub old_a : Family → ℕ → State → List ℕ
old_a f i s = table (rows f) (λ j. rotr (rotation i i) (get_or s.b j 0))

unfoldable pub unstep : Family → ℕ → List ℕ → State → State
unstep f i w s =
    record {
      a = old_a f i s;
      b = s.c;
      c = s.d;
      d =
          table (rows f)
          (λ j.
          sub
          (sub
          (rotr (rotation i (i + 1)) (sub (get_or s.a j 0) (get_or s.b (partner f i j) 0)))
          (choose i (get_or (old_a f i s) j 0) (get_or s.c j 0) (get_or s.d j 0)))
          (get_or w j 0));
    }

-- Steps n - 1 to 0 undone, step i with row i of w.
unfoldable pub unsteps : Family → List (List ℕ) → ℕ → State → State
unsteps f w zero s = s
unsteps f w (suc i) s = unsteps f w i (unstep f i (get_or w i []) s)

-- A column of R words, and a state of four.
pub record Column (f : Family) (l : List ℕ) : Type 0 where
  pub size : length l ≡ rows f
  pub word : (j : ℕ) → j < rows f → get_or l j 0 < 2 ^ 32

pub record Valid (f : Family) (s : State) : Type 0 where
  pub a : Column f s.a
  pub b : Column f s.b
  pub c : Column f s.c
  pub d : Column f s.d
