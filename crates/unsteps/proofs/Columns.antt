-- A step backward by its numbers, and the loop over the steps.
use mathlib.Core.List.{List, []}
use mathlib.Core.Path.{◌≡◌, ap, ◌∙◌}
use Prim.Native.Nat.{ℕ, suc, ◌+◌}
use lib.ListN.{get_or}
use Rattle.simd.specs.Basic.{Family, rows, table}
use Rattle.simd.specs.Constants.{exchange}
use Rattle.simd.specs.Steps.{State, choose, rotation}
use Rattle.laws.proofs.Table.{table_ext}
use Rattle.words.proofs.Exchanges.{partner_code}
use Rattle.unstep_rows.specs.Rows.{sub, rotr, word_a, word_d}
use Rattle.unsteps.specs.Unstep.{old_a, unstep, unsteps}

-- The columns before step i by its numbers are those of the definition.
module _ (f : Family) (i : ℕ) (w : List ℕ) (s : State) {old_a_lem old_d : List ℕ} {n r q x : ℕ} where
  pub unstep_columns : r ≡ rotation i i → q ≡ rotation i (i + 1) → x ≡ exchange f i → old_a_lem ≡ table n (word_a r s.b) →
      old_d ≡ table n (word_d n i q x s.a s.b s.c s.d old_a_lem w) → n ≡ rows f →
      record { a = old_a_lem; b = s.c; c = s.d; d = old_d } ≡ unstep f i w s
  unfolding unstep old_a
  unstep_columns r_is q-is x_is a-is d-is n-is =
      let old_a_is = a-is ∙ (λ t. table (n-is t) (word_a (r_is t) s.b)) in
      let old_d_is = d-is
      ∙ (λ t. table (n-is t) (word_d (n-is t) i (q-is t) (x_is t) s.a s.b s.c s.d (old_a_is t) w))
      ∙ table_ext (rows f) _ _
      (λ j below.
      let y_is = partner_code f i j below in
      let chosen = choose i (get_or (old_a f i s) j 0) (get_or s.c j 0) (get_or s.d j 0) in
      λ t. sub (sub (rotr (rotation i (i + 1)) (sub (get_or s.a j 0) (get_or s.b (y_is t) 0))) chosen) (get_or w j 0)) in
      λ t. record { a = old_a_is t; b = s.c; c = s.d; d = old_d_is t }

-- One step undone, of those that the loop has left.
pub unsteps_more : (f : Family) (w : List (List ℕ)) (i : ℕ) (s t : State) {u : State} →
    t ≡ unstep f i (get_or w i []) s → unsteps f w (suc i) s ≡ u → unsteps f w i t ≡ u
unfolding unsteps
unsteps_more f w i s t t-is rest = ap (unsteps f w i) t-is ∙ rest
