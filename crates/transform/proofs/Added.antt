-- The two ones behind the block bring the added constants: in value i the one at place n - c of n counts w^((n - c) i).
use mathlib.Core.Bool.{Bool, true, false, cond}
use mathlib.Core.List.{List}
use mathlib.Core.Logic.{◌≢◌}
use mathlib.Core.Path.{◌≡◌, refl, sym, ap, ◌∙◌}
use Prim.Native.Nat.{ℕ, zero, suc, ◌+◌, ◌*◌, ◌-◌, ◌≤◌, ◌<◌}
use native.Mathlib.Decide.{ℕ_discrete, dec_lt}
use native.Mathlib.Nat.{zero-mul, one-mul, lt_of_not-le}
use native.Mathlib.Omega.{arith}
use borrow.Author.Tests.{le-leb, lt-leb, eq-eqb, ne_eqb}
use lib.Dec.{eqb}
use lib.ListN.{get_or}
use Rattle.simd.specs.Basic.{sum}
use Rattle.laws.proofs.Sum.{sum_suc, sum_ext, sum_zero, sum_plus}
use Rattle.radix_8.specs.Pass.{appended, held}

-- A sum with one term that is not zero.
sum_one : (n k : ℕ) (g : ℕ → ℕ) → k < n → ((i : ℕ) → i < n → i ≢ k → g i ≡ 0) → sum n g ≡ g k
sum_one zero k g h zeros = absurd (omega arith)
sum_one (suc n) k g h zeros =
    elim (ℕ_discrete k n) [
      | yes e ↦ omega (arith, sum_suc n g, sum_zero n g (λ i below. zeros i (omega arith) (λ (s : i ≡ k). omega arith)), ap g e)
      | no ne ↦
          omega
          (arith, sum_suc n g, sum_one n k g (omega arith) (λ i below other. zeros i (omega arith) other), zeros n (omega arith) (λ (s : n ≡ k). ne (sym s)))
    ]

module _ (n : ℕ) (g : ℕ → ℕ) where
  one_at : (c : ℕ) → 0 < c → c ≤ n → sum n (λ t. cond (eqb (t + c) n) 1 0 * g t) ≡ g (n - c)
  one_at c low high =
      sum_one n (n - c) (λ t. cond (eqb (t + c) n) 1 0 * g t) (omega arith)
      (λ t below other. ap (λ v. cond v 1 0 * g t) (ne_eqb (t + c) n (λ (e : t + c ≡ n). other (omega arith))) ∙ zero-mul (g t))
      ∙ ap (λ v. cond v 1 0 * g (n - c)) (eq-eqb (n - c + c) n (omega arith))
      ∙ one-mul (g (n - c))

  pub ends_sum : (last : Bool) → 3 ≤ n → sum n (λ t. appended n last t * g t) ≡ g (n - 1) + cond last (g (n - 3)) 0
  unfolding appended
  ends_sum false h = sum_ext n _ (λ t. cond (eqb (t + 1) n) 1 0 * g t) (λ t below. omega arith) ∙ one_at 1 (omega arith) (omega arith) ∙ omega arith
  ends_sum true h =
      sum_ext n _ (λ t. cond (eqb (t + 1) n) 1 0 * g t + cond (eqb (t + 3) n) 1 0 * g t) (λ t below. omega arith)
      ∙ sum_plus n (λ t. cond (eqb (t + 1) n) 1 0 * g t) (λ t. cond (eqb (t + 3) n) 1 0 * g t)
      ∙ (λ s. one_at 1 (omega arith) (omega arith) s + one_at 3 (omega arith) h s)

-- Two tests of which each holds where the other does.
same_test : (a b c d : ℕ) → (a ≡ b → c ≡ d) → (c ≡ d → a ≡ b) → eqb a b ≡ eqb c d
same_test a b c d to from =
    elim (ℕ_discrete a b) [
      | yes e ↦ eq-eqb a b e ∙ sym (eq-eqb c d (to e))
      | no ne ↦ ne_eqb a b ne ∙ sym (ne_eqb c d (λ e. ne (from e)))
    ]

-- The numbers that are transformed, where the last eighth is as it should be.
module _ (m : ℕ) (last : Bool) (b ends : List ℕ) (fits : 3 ≤ m) (right : (q : ℕ) → q < m → get_or ends q 0 ≡ appended m last q) where
  in_last_eighth : (q j : ℕ) → 7 * m + q ≡ j → appended m last q ≡ appended (8 * m) last j
  unfolding appended
  in_last_eighth q j place =
      let one = same_test (q + 1) m (j + 1) (8 * m) (λ e. omega arith) (λ e. omega arith) in
      let third = same_test (q + 3) m (j + 3) (8 * m) (λ e. omega arith) (λ e. omega arith) in
      λ i. cond (one i) 1 0 + cond last (cond (third i) 1 0) 0

  before_last_eighth : (j : ℕ) → j < 7 * m → appended (8 * m) last j ≡ 0
  unfolding appended
  before_last_eighth j h =
      let one = ne_eqb (j + 1) (8 * m) (λ (e : j + 1 ≡ 8 * m). omega arith) in
      let third = ne_eqb (j + 3) (8 * m) (λ (e : j + 3 ≡ 8 * m). omega arith) in
      (λ i. cond (one i) 1 0 + cond last (cond (third i) 1 0) 0) ∙ nothing last
    where
      nothing : (last : Bool) → 0 + cond last 0 0 ≡ 0
      nothing true = refl
      nothing false = refl

  pub held_numbers : (j : ℕ) → j < 8 * m → held m b ends j ≡ get_or b j 0 + appended (8 * m) last j
  unfolding held
  held_numbers j h =
      elim (dec_lt j (7 * m)) [
        | yes below ↦ rw (lt-leb (7 * m) j below, before_last_eighth j below) refl
        | no past ↦
            let from : 7 * m ≤ j = omega (arith, lt_of_not-le past) in
            rw (le-leb (7 * m) j from) (ap (λ v. get_or b j 0 + v) (right (j - 7 * m) (omega arith) ∙ in_last_eighth (j - 7 * m) j (omega arith)))
      ]
