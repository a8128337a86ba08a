-- Loops that store one number a turn, turn k at the place u k, or two, at the places u k and v k.
use mathlib.Core.List.{List}
use mathlib.Core.Logic.{◌≢◌, ⊎_elim}
use mathlib.Core.Path.{◌≡◌, refl, sym, ◌∙◌, subst}
use Prim.Native.Nat.{ℕ, ◌+◌, ◌*◌, ◌≤◌, ◌<◌}
use native.Mathlib.Nat.{eq-or-lt_of_le}
use native.Mathlib.Omega.{arith}
use lib.ListN.{length, get_or, set, length-set}
use lib.Seq.{get_or-set_same, get_or-set_other}

-- After k turns: the list is as long as it was, P holds of each pair stored, and all other places are as they were.
pub record Stored (P : ℕ → ℕ → ℕ → Type 0) (u v : ℕ → ℕ) (y₀ y : List ℕ) (k : ℕ) : Type 0 where
  pub size : length y ≡ length y₀
  pub pairs : (j : ℕ) → j < k → P j (get_or y (u j) 0) (get_or y (v j) 0)
  pub others : (p : ℕ) → ((j : ℕ) → j < k → (p ≢ u j) × (p ≢ v j)) → get_or y p 0 ≡ get_or y₀ p 0

-- The places of turn k are in the list, and differ from each other and from those of earlier turns.
pub record Fresh (u v : ℕ → ℕ) (n k : ℕ) : Type 0 where
  pub fits_u : u k < n
  pub fits_v : v k < n
  pub apart : u k ≢ v k
  pub earlier : (j : ℕ) → j < k → (u j ≢ u k) × (u j ≢ v k) × (v j ≢ u k) × (v j ≢ v k)

module _ {P : ℕ → ℕ → ℕ → Type 0} {u v : ℕ → ℕ} {y₀ : List ℕ} where
  pub stored_none : Stored P u v y₀ y₀ 0
  stored_none = record { size = refl; pairs = λ j h. absurd (omega arith); others = λ p h. refl }

  module _ {y : List ℕ} {k a b : ℕ} (done : Stored P u v y₀ y k) (fresh : Fresh u v (length y₀) k) (here : P k a b) where
    next : List ℕ
    next = set (set y (u k) a) (v k) b

    other : (p : ℕ) → p ≢ u k → p ≢ v k → get_or next p 0 ≡ get_or y p 0
    unfolding next
    other p hu hv = get_or-set_other (set y (u k) a) (v k) p b 0 hv ∙ get_or-set_other y (u k) p a 0 hu

    at_u : get_or next (u k) 0 ≡ a
    unfolding next
    at_u = get_or-set_other (set y (u k) a) (v k) (u k) b 0 fresh.apart ∙ get_or-set_same y (u k) a 0 (omega (arith, fresh.fits_u, done.size))

    at_v : get_or next (v k) 0 ≡ b
    unfolding next
    at_v = get_or-set_same (set y (u k) a) (v k) b 0 (omega (arith, fresh.fits_v, done.size, length-set y (u k) a))

    pair_here : P k (get_or next (u k) 0) (get_or next (v k) 0)
    pair_here = rw (at_u, at_v) here

    pair_before : (j : ℕ) → j < k → P j (get_or next (u j) 0) (get_or next (v j) 0)
    pair_before j below =
        let apart = fresh.earlier j below in
        rw (other (u j) apart.0 apart.1, other (v j) apart.2 apart.3) (done.pairs j below)

    pub stored_more : Stored P u v y₀ (set (set y (u k) a) (v k) b) (k + 1)
    unfolding next
    stored_more =
        record {
          size = omega (arith, length-set (set y (u k) a) (v k) b, length-set y (u k) a, done.size);
          pairs =
              λ j h.
              ⊎_elim (λ e. subst (λ j. P j (get_or next (u j) 0) (get_or next (v j) 0)) (sym e) pair_here) (pair_before j)
              (eq-or-lt_of_le {n = j} {m = k} (omega arith));
          others = λ p h. other p (h k (omega arith)).0 (h k (omega arith)).1 ∙ done.others p (λ j below. h j (omega arith));
        }

-- Neighbouring places from p and from r on, n of each.
pub fresh_runs : (p r n : ℕ) {size k : ℕ} → p + n ≤ r → r + n ≤ size → k < n → Fresh (λ k. p + k) (λ k. r + k) size k
fresh_runs p r n apart fits h =
    record {
      fits_u = omega arith;
      fits_v = omega arith;
      apart = λ e. omega arith;
      earlier = λ j below. ((λ e. omega arith), (λ e. omega arith), (λ e. omega arith), (λ e. omega arith));
    }

-- The places of the first half and those of the second.
pub fresh_halves : (n : ℕ) {size k : ℕ} → n + n ≤ size → k < n → Fresh (λ k. k) (λ k. n + k) size k
fresh_halves n fits h =
    record {
      fits_u = omega arith;
      fits_v = omega arith;
      apart = λ e. omega arith;
      earlier = λ j below. ((λ e. omega arith), (λ e. omega arith), (λ e. omega arith), (λ e. omega arith));
    }

-- One number a turn: after k turns g j stands at u j for each earlier turn j, and all other places are as they were.
pub record Filled (g u : ℕ → ℕ) (y₀ y : List ℕ) (k : ℕ) : Type 0 where
  pub size : length y ≡ length y₀
  pub filled : (j : ℕ) → j < k → get_or y (u j) 0 ≡ g j
  pub others : (p : ℕ) → ((j : ℕ) → j < k → p ≢ u j) → get_or y p 0 ≡ get_or y₀ p 0

module _ {g u : ℕ → ℕ} {y₀ : List ℕ} where
  pub filled_none : Filled g u y₀ y₀ 0
  filled_none = record { size = refl; filled = λ j h. absurd (omega arith); others = λ p h. refl }

  module _ {y : List ℕ} {k a : ℕ} (done : Filled g u y₀ y k) (fits : u k < length y₀) (fresh : (j : ℕ) → j < k → u j ≢ u k) (here : a ≡ g k) where
    filled_here : get_or (set y (u k) a) (u k) 0 ≡ g k
    filled_here = get_or-set_same y (u k) a 0 (omega (arith, done.size)) ∙ here

    filled_before : (j : ℕ) → j < k → get_or (set y (u k) a) (u j) 0 ≡ g j
    filled_before j below = get_or-set_other y (u k) (u j) a 0 (fresh j below) ∙ done.filled j below

    pub filled_more : Filled g u y₀ (set y (u k) a) (k + 1)
    filled_more =
        record {
          size = omega (arith, length-set y (u k) a, done.size);
          filled =
              λ j h.
              ⊎_elim (λ e. subst (λ j. get_or (set y (u k) a) (u j) 0 ≡ g j) (sym e) filled_here) (filled_before j)
              (eq-or-lt_of_le {n = j} {m = k} (omega arith));
          others = λ p h. get_or-set_other y (u k) p a 0 (h k (omega arith)) ∙ done.others p (λ j below. h j (omega arith));
        }
