-- The last eighth: an array of zeros in which one place, or two, take 1.
use mathlib.Core.Bool.{Bool, true, false, cond}
use mathlib.Core.List.{List}
use mathlib.Core.Path.{◌≡◌, refl, sym, ap, ◌∙◌}
use Prim.Native.Nat.{ℕ, ◌+◌, ◌-◌, ◌≤◌, ◌<◌}
use native.Mathlib.Decide.{ℕ_discrete}
use native.Mathlib.Omega.{arith}
use borrow.Author.Tests.{eq-eqb, ne_eqb}
use lib.Dec.{eqb}
use lib.ListN.{length, get_or, set, length-set}
use lib.Seq.{get_or-set_same, get_or-set_other}
use Rattle.radix_8.specs.Pass.{appended}

module _ (x : List ℕ) (m : ℕ) (empty : (length x ≡ m) × (3 ≤ m) × ((q : ℕ) → q < m → get_or x q 0 ≡ 0)) where
  abbrev one : List ℕ
  one = set x (m - 1) 1

  abbrev two : List ℕ
  two = set one (m - 3) 1

  pub message_ends : (q : ℕ) → q < m → get_or one q 0 ≡ appended m false q
  unfolding appended
  message_ends q h =
      elim (ℕ_discrete q (m - 1)) [
        | yes e ↦ ap (λ p. get_or one p 0) e ∙ get_or-set_same x (m - 1) 1 0 (omega arith) ∙ sym (rw (eq-eqb (q + 1) m (omega arith)) refl)
        | no ne ↦
            get_or-set_other x (m - 1) q 1 0 ne ∙ empty.2 q h
            ∙ sym (rw (ne_eqb (q + 1) m (λ e. ne (omega arith))) refl)
      ]

  pub length_ends : (q : ℕ) → q < m → get_or two q 0 ≡ appended m true q
  unfolding appended
  length_ends q h =
      elim (ℕ_discrete q (m - 3)) [
        | yes e ↦
            ap (λ p. get_or two p 0) e
            ∙ get_or-set_same one (m - 3) 1 0 (omega (arith, length-set x (m - 1) 1))
            ∙ sym (rw (ne_eqb (q + 1) m (λ n. omega arith), eq-eqb (q + 3) m (omega arith)) refl)
        | no ne ↦
            get_or-set_other one (m - 3) q 1 0 ne ∙ message_ends q h
            ∙ sym (rw (ne_eqb (q + 3) m (λ e. ne (omega arith))) refl)
      ]

-- No number of it is above 1.
pub ends_small : (m : ℕ) (last : Bool) (q v : ℕ) → v ≡ appended m last q → v ≤ 1
unfolding appended
ends_small m last q v same = rw same (by_place last (ℕ_discrete (q + 1) m) (ℕ_discrete (q + 3) m))
  where
    by_place : (last : Bool) → Dec (q + 1 ≡ m) → Dec (q + 3 ≡ m) → cond (eqb (q + 1) m) 1 0 + cond last (cond (eqb (q + 3) m) 1 0) 0 ≤ 1
    by_place false (yes e) there = rw (eq-eqb (q + 1) m e) (omega arith)
    by_place false (no ne) there = rw (ne_eqb (q + 1) m ne) (omega arith)
    by_place true (yes e) there = rw (eq-eqb (q + 1) m e, ne_eqb (q + 3) m (λ (f : q + 3 ≡ m). omega arith)) (omega arith)
    by_place true (no ne) (yes e) = rw (ne_eqb (q + 1) m ne, eq-eqb (q + 3) m e) (omega arith)
    by_place true (no ne) (no e) = rw (ne_eqb (q + 1) m ne, ne_eqb (q + 3) m e) (omega arith)
