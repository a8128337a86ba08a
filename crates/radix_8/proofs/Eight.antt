-- Eight values at each place. Of the eight numbers of a place the first four are bytes, the next three zero, and the factor of the last is that
-- of the fourth byte: times 1 for an even value, times -1 for an odd one. So a value is that of four numbers, the last eighth added to the
-- fourth, or subtracted.
use mathlib.Core.List.{List}
use mathlib.Core.Logic.{⊎_elim}
use mathlib.Core.Path.{◌≡◌, sym, ap, ◌∙◌, subst}
use Prim.Native.Nat.{ℕ, ◌+◌, ◌*◌, ◌-◌, ◌/◌, ◌%◌, ◌≤◌, ◌<◌}
use native.Mathlib.Nat.{eq-or-lt_of_le}
use native.Mathlib.Decide.{ℕ_discrete}
use native.Mathlib.Omega.{arith}
use borrow.Author.Tests.{le-leb, lt-leb}
use lib.Arith.{digits_div, digits_mod}
use lib.ListN.{length, get_or, get_or-eq_default}
use Rattle.simd.specs.Basic.{sum}
use Rattle.simd.specs.Expansion.{power}
use Rattle.laws.proofs.Field.{Same, same_refl, same_of, same_trans, same_add, same_mul, power_zero}
use Rattle.transform_stages.specs.Stage.{part}
use Rattle.transform_stages.proofs.Level.{power_whole, power_half}
use Rattle.radix_8.specs.Pass.{held, four, Values, Spread, Placed}

-- What holds of every even and of every odd value holds of all eight.
parity : (P : ℕ → Type 0) → ((j : ℕ) → j < 4 → P (2 * j + 0)) → ((j : ℕ) → j < 4 → P (2 * j + 1)) → (k : ℕ) → k < 8 → P k
parity P low high k h = by_rest (ℕ_discrete (k % 2) 0)
  where
    by_rest : Dec (k % 2 ≡ 0) → P k
    by_rest (yes e) = subst P (omega arith) (low (k / 2) (omega arith))
    by_rest (no ne) = subst P (omega arith) (high (k / 2) (omega arith))

-- Value k of part p and value k' of part q stand at one place only if they are one.
one_place : (m k p k' q : ℕ) → p < m → q < m → k * m + p ≡ k' * m + q → (k ≡ k') × (p ≡ q)
one_place m k p k' q hp hq same = (
  sym (digits_div k hp) ∙ ap (λ v. v / m) same ∙ digits_div k' hq,
  sym (digits_mod k hp) ∙ ap (λ v. v % m) same ∙ digits_mod k' hq,
)

module _ (m : ℕ) (b e : List ℕ) (sizes : (length b ≡ 4 * m) × (length e ≡ m)) where
  -- The numbers of a place.
  byte : (j p : ℕ) → j ≡ p → p < 7 * m → held m b e j ≡ get_or b p 0
  unfolding held
  byte j p same below = rw (lt-leb (7 * m) j (omega arith)) (omega (arith, ap (λ i. get_or b i 0) same))

  empty : (j p : ℕ) → j ≡ p → 4 * m ≤ p → p < 7 * m → held m b e j ≡ 0
  empty j p same from below = byte j p same below ∙ get_or-eq_default b 0 {n = p} (omega arith)

  end : (j q : ℕ) → j ≡ 7 * m + q → held m b e j ≡ get_or e q 0
  unfolding held
  end j q same =
      let past = get_or-eq_default b 0 {n = j} (omega arith) in
      let place : j - 7 * m ≡ q = omega arith in
      rw (le-leb (7 * m) j (omega arith), past, place) (omega arith)

  value : (k q : ℕ) → q < m
      → part (held m b e) 32 m 8 k q
      ≡ four k (get_or b q 0) (get_or b (m + q) 0) (get_or b (2 * m + q) 0) (get_or b (3 * m + q) 0) + get_or e q 0 * power 41 (224 * k)
  unfolding part sum four
  value k q h =
      let t0 : held m b e (q + m * 0) ≡ get_or b q 0 = byte _ _ (omega arith) (omega arith) in
      let t1 : held m b e (q + m * 1) ≡ get_or b (m + q) 0 = byte _ _ (omega arith) (omega arith) in
      let t2 : held m b e (q + m * 2) ≡ get_or b (2 * m + q) 0 = byte _ _ (omega arith) (omega arith) in
      let t3 : held m b e (q + m * 3) ≡ get_or b (3 * m + q) 0 = byte _ _ (omega arith) (omega arith) in
      let t4 : held m b e (q + m * 4) ≡ 0 = empty _ (4 * m + q) (omega arith) (omega arith) (omega arith) in
      let t5 : held m b e (q + m * 5) ≡ 0 = empty _ (5 * m + q) (omega arith) (omega arith) (omega arith) in
      let t6 : held m b e (q + m * 6) ≡ 0 = empty _ (6 * m + q) (omega arith) (omega arith) (omega arith) in
      let t7 : held m b e (q + m * 7) ≡ get_or e q 0 = end _ q (omega arith) in
      let p0 : power 41 (32 * (k * 0)) ≡ 1 = ap (power 41) (omega arith) ∙ power_zero 41 in
      let p1 : power 41 (32 * (k * 1)) ≡ power 41 (32 * k) = ap (power 41) (omega arith) in
      let p2 : power 41 (32 * (k * 2)) ≡ power 41 (64 * k) = ap (power 41) (omega arith) in
      let p3 : power 41 (32 * (k * 3)) ≡ power 41 (96 * k) = ap (power 41) (omega arith) in
      let p7 : power 41 (32 * (k * 7)) ≡ power 41 (224 * k) = ap (power 41) (omega arith) in
      rw (t0, t1, t2, t3, t4, t5, t6, t7, p0, p1, p2, p3, p7) (omega arith)

  module _ (q : ℕ) (inside : q < m) where
    abbrev a₀ : ℕ
    a₀ = get_or b q 0

    abbrev a₁ : ℕ
    a₁ = get_or b (m + q) 0

    abbrev a₂ : ℕ
    a₂ = get_or b (2 * m + q) 0

    abbrev a₃ : ℕ
    a₃ = get_or b (3 * m + q) 0

    abbrev a₇ : ℕ
    a₇ = get_or e q 0

    even : (j : ℕ) → Same (part (held m b e) 32 m 8 (2 * j + 0) q) (four (2 * j + 0) a₀ a₁ a₂ (a₃ + a₇))
    unfolding four
    even j =
        let k : ℕ = 2 * j + 0 in
        let turned = same_trans (same_of (ap (power 41) {x = 224 * k} {y = 256 * j + 96 * k} (omega arith))) (power_whole j (96 * k)) in
        same_trans (same_of (value k q inside))
        (same_trans (same_add (same_refl (four k a₀ a₁ a₂ a₃)) (same_mul (same_refl a₇) turned)) (same_of (omega arith)))

    odd : (j : ℕ) → Same (part (held m b e) 32 m 8 (2 * j + 1) q) (four (2 * j + 1) a₀ a₁ a₂ (a₃ + 256 * a₇))
    unfolding four
    odd j =
        let k : ℕ = 2 * j + 1 in
        let whole = same_trans (same_of (ap (power 41) {x = 224 * k} {y = 256 * j + (128 + 96 * k)} (omega arith))) (power_whole j (128 + 96 * k)) in
        let turned = same_trans whole (power_half (96 * k)) in
        same_trans (same_of (value k q inside))
        (same_trans (same_add (same_refl (four k a₀ a₁ a₂ a₃)) (same_mul (same_refl a₇) turned)) (same_of (omega arith)))

    -- The even values have been spread over y, and then the odd ones.
    module _ {y y₁ y₂ v w : List ℕ} (evens : Values 0 a₀ a₁ a₂ (a₃ + a₇) v) (first : Spread q (2 * m) v y y₁)
        (odds : Values 1 a₀ a₁ a₂ (a₃ + 256 * a₇) w) (second : Spread (m + q) (2 * m) w y₁ y₂) where
      at_even : (j : ℕ) → j < 4 → get_or y₂ ((2 * j + 0) * m + q) 0 ≡ get_or v j 0
      at_even j h =
          second.others ((2 * j + 0) * m + q)
          (λ i hi same. omega (arith, (one_place m (2 * j + 0) q (2 * i + 1) q inside inside (omega arith)).0))
          ∙ ap (λ p. get_or y₁ p 0) (omega arith)
          ∙ first.here j h

      at_odd : (j : ℕ) → j < 4 → get_or y₂ ((2 * j + 1) * m + q) 0 ≡ get_or w j 0
      at_odd j h = ap (λ p. get_or y₂ p 0) (omega arith) ∙ second.here j h

      pub placed : Placed m b e y₂ q
      placed =
          record {
            value =
                λ k h.
                parity (λ k. get_or y₂ (k * m + q) 0 % 257 ≡ part (held m b e) 32 m 8 k q % 257)
                (λ j h. ap (λ v. v % 257) (at_even j h) ∙ evens.value j h ∙ sym (even j).same)
                (λ j h. ap (λ v. v % 257) (at_odd j h) ∙ odds.value j h ∙ sym (odd j).same) k h;
            within =
                λ k h.
                parity (λ k. (2570 ≤ get_or y₂ (k * m + q) 0) × (get_or y₂ (k * m + q) 0 ≤ 45000))
                (λ j h. rw (at_even j h) (evens.within j h)) (λ j h. rw (at_odd j h) (odds.within j h)) k h;
          }

      pub before_kept : (k p : ℕ) → p < q → get_or y₂ (k * m + p) 0 ≡ get_or y (k * m + p) 0
      before_kept k p h =
          second.others (k * m + p) (λ j hj same. omega (arith, (one_place m k p (2 * j + 1) q (omega arith) inside (omega arith)).1))
          ∙ first.others (k * m + p) (λ j hj same. omega (arith, (one_place m k p (2 * j) q (omega arith) inside (omega arith)).1))

-- One place more, those before it kept.
pub placed_more : {m : ℕ} {b e y y' : List ℕ} (q : ℕ) → ((p : ℕ) → p < q → Placed m b e y p) → Placed m b e y' q
    → ((k p : ℕ) → p < q → get_or y' (k * m + p) 0 ≡ get_or y (k * m + p) 0) → (p : ℕ) → p < q + 1 → Placed m b e y' p
placed_more {m} {b} {e} {y} {y'} q done here kept p h =
    ⊎_elim (λ same. subst (Placed m b e y') (sym same) here)
    (λ below.
    record {
      value = λ k hk. rw (kept k p below) ((done p below).value k hk);
      within = λ k hk. rw (kept k p below) ((done p below).within k hk);
    })
    (eq-or-lt_of_le {n = p} {m = q} (omega arith))
