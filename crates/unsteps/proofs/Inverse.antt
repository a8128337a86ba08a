-- Steps and steps backward undo each other, for both families: back after forward is the start, forward after back is the end,
-- and so no two starts reach one end.
use mathlib.Core.List.{List, []}
use mathlib.Core.Path.{◌≡◌, refl, sym, ap, ◌∙◌, subst}
use Prim.Native.Nat.{ℕ, zero, suc, ◌+◌, ◌-◌, ◌^◌, ◌<◌}
use native.Mathlib.Omega.{arith}
use lib.ListN.{get_or}
use Rattle.simd.specs.Basic.{Family, rows, table}
use Rattle.simd.specs.Steps.{State, add, rotl, choose, rotation, partner, step, steps}
use Rattle.laws.proofs.Table.{length_table, get_d_table, table_of}
use Rattle.laws.proofs.Words.{add_lt, rotl_lt, rotl_back, rotl_forth}
use Rattle.words.proofs.Exchanges.{partner_lt}
use Rattle.words.proofs.Rotations.{rotation_above, rotation_below}
use Rattle.unstep_rows.specs.Rows.{sub, rotr}
use Rattle.unsteps.specs.Unstep.{old_a, unstep, unsteps, Column, Valid}

sub_add : (x y : ℕ) → x < 2 ^ 32 → sub (add x y) y ≡ x
unfolding sub add
sub_add x y fits = omega arith

add_sub : (x y : ℕ) → x < 2 ^ 32 → add (sub x y) y ≡ x
unfolding sub add
add_sub x y fits = omega arith

sub_lt : (x y : ℕ) → sub x y < 2 ^ 32
unfolding sub
sub_lt x y = omega arith

-- A table of words is a column.
column : (f : Family) (g : ℕ → ℕ) → ((j : ℕ) → j < rows f → g j < 2 ^ 32) → Column f (table (rows f) g)
column f g fits =
    record {
      size = length_table (rows f) g;
      word = λ j below. subst (λ n. n < 2 ^ 32) (sym (get_d_table (rows f) g j 0 below)) (fits j below);
    }

rotr_rotl : (i k x : ℕ) → x < 2 ^ 32 → rotr (rotation i k) (rotl (rotation i k) x) ≡ x
unfolding rotr
rotr_rotl i k x = rotl_back (rotation i k) x (rotation_above i k) (rotation_below i k)

rotl_rotr : (i k x : ℕ) → x < 2 ^ 32 → rotl (rotation i k) (rotr (rotation i k) x) ≡ x
unfolding rotr
rotl_rotr i k x = rotl_forth (rotation i k) x (rotation_above i k) (rotation_below i k)

rotr_lt : (i k x : ℕ) → x < 2 ^ 32 → rotr (rotation i k) x < 2 ^ 32
unfolding rotr
rotr_lt i k x = rotl_lt (32 - rotation i k) x (omega (arith, rotation_below i k)) (omega (arith, rotation_above i k))

module _ (f : Family) (i : ℕ) (w : List ℕ) (s : State) (valid : Valid f s) where
  step_valid : Valid f (step f i w s)
  unfolding step
  step_valid =
      record {
        a = column f _ (λ j below. add_lt _ _);
        b = column f _ (λ j below. rotl_lt (rotation i i) (get_or s.a j 0) (rotation_above i i) (rotation_below i i) (valid.a.word j below));
        c = valid.b;
        d = valid.c;
      }

  unstep_valid : Valid f (unstep f i w s)
  unfolding unstep old_a
  unstep_valid =
      record {
        a = column f _ (λ j below. rotr_lt i i (get_or s.b j 0) (valid.b.word j below));
        b = valid.c;
        c = valid.d;
        d = column f _ (λ j below. sub_lt _ _);
      }

  -- What step i writes in row j.
  new_a_lem : (j : ℕ) → j < rows f →
      get_or (step f i w s).a j 0 ≡ add
      (rotl (rotation i (i + 1)) (add (add (get_or s.d j 0) (get_or w j 0)) (choose i (get_or s.a j 0) (get_or s.b j 0) (get_or s.c j 0))))
      (rotl (rotation i i) (get_or s.a (partner f i j) 0))
  unfolding step
  new_a_lem j below = get_d_table (rows f) _ j 0 below

  new_b : (j : ℕ) → j < rows f → get_or (step f i w s).b j 0 ≡ rotl (rotation i i) (get_or s.a j 0)
  unfolding step
  new_b j below = get_d_table (rows f) _ j 0 below

  old_a_lem : (j : ℕ) → j < rows f → get_or (old_a f i s) j 0 ≡ rotr (rotation i i) (get_or s.b j 0)
  unfolding old_a
  old_a_lem j below = get_d_table (rows f) _ j 0 below

  a_back : old_a f i (step f i w s) ≡ s.a
  unfolding old_a
  a_back =
      sym
      (table_of 0 (rows f) _ s.a valid.a.size
      (λ j below. sym (ap (rotr (rotation i i)) (new_b j below) ∙ rotr_rotl i i (get_or s.a j 0) (valid.a.word j below))))

  d_back : (unstep f i w (step f i w s)).d ≡ s.d
  unfolding unstep step
  d_back =
      sym
      (table_of 0 (rows f) _ s.d valid.d.size
      (λ j below.
      let old = get_or s.d j 0 in
      let word = get_or w j 0 in
      let chosen = choose i (get_or s.a j 0) (get_or s.b j 0) (get_or s.c j 0) in
      let sum = add (add old word) chosen in
      let p_below = partner_lt f i j below in
      let turned = rotl_lt (rotation i (i + 1)) sum (rotation_above i (i + 1)) (rotation_below i (i + 1)) (add_lt (add old word) chosen) in
      let apart = (λ t. sub (new_a_lem j below t) (new_b (partner f i j) p_below t)) ∙ sub_add _ _ turned in
      let sum_back = ap (rotr (rotation i (i + 1))) apart ∙ rotr_rotl i (i + 1) sum (add_lt (add old word) chosen) in
      let chosen_back = ap (λ l. choose i (get_or l j 0) (get_or s.b j 0) (get_or s.c j 0)) a_back in
      sym
      ((λ t. sub (sub (sum_back t) (chosen_back t)) word)
      ∙ ap (λ v. sub v word) (sub_add (add old word) chosen (add_lt old word))
      ∙ sub_add old word (valid.d.word j below))))

  pub unstep_step : unstep f i w (step f i w s) ≡ s
  unfolding unstep step
  unstep_step = λ t. record { a = a_back t; b = s.b; c = s.c; d = d_back t }

  b_forth : (step f i w (unstep f i w s)).b ≡ s.b
  unfolding step unstep
  b_forth =
      sym
      (table_of 0 (rows f) _ s.b valid.b.size
      (λ j below. sym (ap (rotl (rotation i i)) (old_a_lem j below) ∙ rotl_rotr i i (get_or s.b j 0) (valid.b.word j below))))

  -- What step i backward writes in row j of D.
  old_d : (j : ℕ) → j < rows f →
      get_or (unstep f i w s).d j 0 ≡ sub
      (sub
      (rotr (rotation i (i + 1)) (sub (get_or s.a j 0) (get_or s.b (partner f i j) 0)))
      (choose i (get_or (old_a f i s) j 0) (get_or s.c j 0) (get_or s.d j 0)))
      (get_or w j 0)
  unfolding unstep
  old_d j below = get_d_table (rows f) _ j 0 below

  a_forth : (step f i w (unstep f i w s)).a ≡ s.a
  unfolding step unstep
  a_forth =
      sym
      (table_of 0 (rows f) _ s.a valid.a.size
      (λ j below.
      let word = get_or w j 0 in
      let chosen = choose i (get_or (old_a f i s) j 0) (get_or s.c j 0) (get_or s.d j 0) in
      let p_below = partner_lt f i j below in
      let other = get_or s.b (partner f i j) 0 in
      let apart = sub (get_or s.a j 0) other in
      let sum = rotr (rotation i (i + 1)) apart in
      let sum-forth =
      ap (λ v. add (add v word) chosen) (old_d j below)
      ∙ ap (λ v. add v chosen) (add_sub (sub sum chosen) word (sub_lt sum chosen))
      ∙ add_sub sum chosen (rotr_lt i (i + 1) apart (sub_lt (get_or s.a j 0) other)) in
      let turned = ap (rotl (rotation i (i + 1))) sum-forth ∙ rotl_rotr i (i + 1) apart (sub_lt (get_or s.a j 0) other) in
      let crossed = ap (rotl (rotation i i)) (old_a_lem (partner f i j) p_below) ∙ rotl_rotr i i other (valid.b.word (partner f i j) p_below) in
      sym ((λ t. add (turned t) (crossed t)) ∙ add_sub (get_or s.a j 0) other (valid.a.word j below))))

  pub step_unstep : step f i w (unstep f i w s) ≡ s
  unfolding unstep step
  step_unstep = λ t. record { a = a_forth t; b = b_forth t; c = s.c; d = s.d }

module _ (f : Family) (w : List (List ℕ)) where
  pub steps_valid : (n : ℕ) (s : State) → Valid f s → Valid f (steps f w n s)
  unfolding steps
  steps_valid zero s valid = valid
  steps_valid (suc i) s valid = step_valid f i (get_or w i []) (steps f w i s) (steps_valid i s valid)

  pub unsteps_valid : (n : ℕ) (s : State) → Valid f s → Valid f (unsteps f w n s)
  unfolding unsteps
  unsteps_valid zero s valid = valid
  unsteps_valid (suc i) s valid = unsteps_valid i (unstep f i (get_or w i []) s) (unstep_valid f i (get_or w i []) s valid)

  -- Back after forward is the start.
  pub unsteps_steps : (n : ℕ) (s : State) → Valid f s → unsteps f w n (steps f w n s) ≡ s
  unfolding unsteps steps
  unsteps_steps zero s valid = refl
  unsteps_steps (suc i) s valid =
      ap (unsteps f w i) (unstep_step f i (get_or w i []) (steps f w i s) (steps_valid i s valid)) ∙ unsteps_steps i s valid

  -- Forward after back is the end.
  pub steps_unsteps : (n : ℕ) (s : State) → Valid f s → steps f w n (unsteps f w n s) ≡ s
  unfolding unsteps steps
  steps_unsteps zero s valid = refl
  steps_unsteps (suc i) s valid =
      ap (step f i (get_or w i [])) (steps_unsteps i (unstep f i (get_or w i []) s) (unstep_valid f i (get_or w i []) s valid))
      ∙ step_unstep f i (get_or w i []) s valid

  -- No other start reaches the same end.
  pub one_start : (n : ℕ) (s t : State) → Valid f s → Valid f t → steps f w n s ≡ steps f w n t → s ≡ t
  one_start n s t valid-s valid-t same = sym (unsteps_steps n s valid-s) ∙ ap (unsteps f w n) same ∙ unsteps_steps n t valid-t
