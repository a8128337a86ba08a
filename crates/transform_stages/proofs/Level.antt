-- The levels of the transform: each splits into two of half the size, of the even and of the odd places.
use Rattle.std.proofs.Common.{◌≡◌, ℕ, zero, suc, ◌+◌, ◌-◌, ◌*◌, ◌<◌, ◌≤◌, List, get_or, refl, ap, ◌∙◌, subst, mul_assoc, one-mul, lt_of_not-le, mul_left_comm, arith}
use native.Mathlib.Decide.{dec_lt}
use Rattle.simd.specs.Basic.{sum}
use Rattle.simd.specs.Expansion.{power}
use Rattle.laws.proofs.Sum.{sum_suc, sum_ext, sum_scale}
use Rattle.laws.proofs.Field.{Same, same_refl, same_of, same_sym, same_trans, same_add, same_mul, same_sum, power_add, power_multiple, half_of_41, order_of_41}
use Rattle.transform_stages.specs.Stage.{part, Level, Butterfly}

sum_pairs : (n : ℕ) (g : ℕ → ℕ) → sum (2 * n) g ≡ sum n (λ s. g (2 * s)) + sum n (λ s. g (2 * s + 1))
unfolding sum
sum_pairs zero g = refl
sum_pairs (suc n) g =
    let double : 2 * suc n ≡ suc (suc (2 * n)) = omega arith in
    let odd : g (suc (2 * n)) ≡ g (2 * n + 1) = ap g (omega arith) in
    omega
    (arith, ap (λ v. sum v g) double, sum_suc (suc (2 * n)) g, sum_suc (2 * n) g, sum_pairs n g, sum_suc n (λ s. g (2 * s)), sum_suc n (λ s. g (2 * s + 1)))

-- A whole turn changes no power of 41, and half a turn its sign.
pub power_whole : (s n : ℕ) → Same (power 41 (256 * s + n)) (power 41 n)
power_whole s n =
    same_trans (power_add 41 (256 * s) n) (same_of (ap (λ v. v * power 41 n) (power_multiple 41 256 s order_of_41) ∙ one-mul _))

pub power_half : (n : ℕ) → Same (power 41 (128 + n)) (256 * power 41 n)
power_half n = same_trans (power_add 41 128 n) (same_of (ap (λ v. v * power 41 n) half_of_41))

module _ (a : ℕ → ℕ) (e m l : ℕ) where
  evens : (k q s : ℕ) → a (q + m * (2 * s)) * power 41 (e * (k * (2 * s))) ≡ a (q + 2 * m * s) * power 41 (2 * e * (k * s))
  evens k q s =
      let place : q + m * (2 * s) ≡ q + 2 * m * s = omega arith in
      let exponent : e * (k * (2 * s)) ≡ 2 * e * (k * s) = omega arith in
      λ i. a (place i) * power 41 (exponent i)

  odds : (k q s : ℕ)
      → Same (a (q + m * (2 * s + 1)) * power 41 (e * (k * (2 * s + 1)))) (power 41 (e * k) * (a (q + m + 2 * m * s) * power 41 (2 * e * (k * s))))
  odds k q s =
      let place : q + m * (2 * s + 1) ≡ q + m + 2 * m * s = omega arith in
      let exponent : e * (k * (2 * s + 1)) ≡ e * k + 2 * e * (k * s) = omega arith in
      same_trans (same_of (λ i. a (place i) * power 41 (exponent i)))
      (same_trans (same_mul (same_refl (a (q + m + 2 * m * s))) (power_add 41 (e * k) (2 * e * (k * s))))
      (same_of (mul_left_comm (a (q + m + 2 * m * s)) (power 41 (e * k)) (power 41 (2 * e * (k * s))))))

  -- The even places, and the odd ones times a power.
  pub split : (k q : ℕ) → Same (part a e m (2 * l) k q) (part a (2 * e) (2 * m) l k q + power 41 (e * k) * part a (2 * e) (2 * m) l k (q + m))
  unfolding part
  split k q =
      same_trans (same_of (sum_pairs l (λ t. a (q + m * t) * power 41 (e * (k * t)))))
      (same_add (same_of (sum_ext l _ _ (λ s below. evens k q s)))
      (same_trans (same_sum l _ _ (λ s below. odds k q s))
      (same_of (sum_scale (power 41 (e * k)) l (λ s. a (q + m + 2 * m * s) * power 41 (2 * e * (k * s)))))))

  module _ (order : e * l ≡ 128) where
    -- Half a turn on, the factor changes its sign and the two parts come again.
    half_turn : (k : ℕ) → Same (power 41 (e * (k + l))) (256 * power 41 (e * k))
    half_turn k =
        let exponent : e * (k + l) ≡ 128 + e * k = omega arith in
        same_trans (same_of (ap (power 41) exponent)) (power_half (e * k))

    turned : (k s : ℕ) → Same (power 41 (2 * e * ((k + l) * s))) (power 41 (2 * e * (k * s)))
    turned k s =
        let multiple : e * l * s ≡ 128 * s = ap (λ v. v * s) order in
        let exponent : 2 * e * ((k + l) * s) ≡ 256 * s + 2 * e * (k * s) = omega arith in
        same_trans (same_of (ap (power 41) exponent)) (power_whole s (2 * e * (k * s)))

    whole_turn : (k q : ℕ) → Same (part a (2 * e) (2 * m) l (k + l) q) (part a (2 * e) (2 * m) l k q)
    unfolding part
    whole_turn k q = same_sum l _ _ (λ s below. same_mul (same_refl (a (q + 2 * m * s))) (turned k s))

    pub split_minus : (k q : ℕ)
        → Same (part a e m (2 * l) (k + l) q) (part a (2 * e) (2 * m) l k q + 256 * (power 41 (e * k) * part a (2 * e) (2 * m) l k (q + m)))
    split_minus k q =
        same_trans (split (k + l) q)
        (same_add (whole_turn k q)
        (same_trans (same_mul (half_turn k) (whole_turn k (q + m)))
        (same_of (mul_assoc 256 (power 41 (e * k)) (part a (2 * e) (2 * m) l k (q + m))))))

-- What holds of k and of k + l, for each k below l, holds below 2 l.
pub halves : (P : ℕ → Type 0) (l : ℕ) → ((k : ℕ) → k < l → P k) → ((k : ℕ) → k < l → P (k + l)) → (k : ℕ) → k < 2 * l → P k
halves P l low high k h = by_half (dec_lt k l)
  where
    by_half : Dec (k < l) → P k
    by_half (yes below) = low k below
    by_half (no above) =
        let reached : l ≤ k = omega (arith, lt_of_not-le above) in
        subst P (omega arith) (high (k - l) (omega arith))

-- Butterflies lead from a level to the next, whatever the places.
module _
    (a : ℕ → ℕ)
    (e m l : ℕ)
    (order : e * l ≡ 128)
    (at at' : ℕ → ℕ → ℕ)
    (x y : List ℕ)
    (level : Level a (2 * e) (2 * m) l at x)
    (all : (k q : ℕ) → k < l → q < m
    → Butterfly (get_or x (at k q) 0) (power 41 (e * k)) (get_or x (at k (q + m)) 0) (get_or y (at' k q) 0) (get_or y (at' (k + l) q) 0)) where
  from : (k q : ℕ) → k < l → q < 2 * m → Same (get_or x (at k q) 0) (part a (2 * e) (2 * m) l k q)
  from k q hk hq = record { same = level.value k q hk hq }

  value_low : (k q : ℕ) → k < l → q < m → Same (get_or y (at' k q) 0) (part a e m (2 * l) k q)
  value_low k q hk hq =
      same_trans (record { same = (all k q hk hq).plus })
      (same_trans (same_add (from k q hk (omega arith)) (same_mul (same_refl (power 41 (e * k))) (from k (q + m) hk (omega arith))))
      (same_sym (split a e m l k q)))

  value_high : (k q : ℕ) → k < l → q < m → Same (get_or y (at' (k + l) q) 0) (part a e m (2 * l) (k + l) q)
  value_high k q hk hq =
      same_trans (record { same = (all k q hk hq).minus })
      (same_trans
      (same_add (from k q hk (omega arith))
      (same_mul (same_refl 256) (same_mul (same_refl (power 41 (e * k))) (from k (q + m) hk (omega arith)))))
      (same_sym (split_minus a e m l order k q)))

  pub next : Level a e m (2 * l) at' y
  next =
      record {
        value =
            λ k q hk hq.
            (halves (λ k. Same (get_or y (at' k q) 0) (part a e m (2 * l) k q)) l (λ k h. value_low k q h hq) (λ k h. value_high k q h hq) k hk).same;
      }
