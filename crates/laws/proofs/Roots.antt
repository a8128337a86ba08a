-- Polynomials modulo 257: a polynomial of n coefficients, not all 0, has fewer than n roots.
-- Numbers are natural numbers, so a difference is written as an exact equation of two sums.
use mathlib.Core.Bool.{Bool, not}
use mathlib.Core.Logic.{◌≢◌, inl, inr}
use mathlib.Core.Path.{◌≡◌, refl, sym, ap, ◌∙◌, subst}
use Prim.Native.Nat.{ℕ, zero, suc, ◌+◌, ◌-◌, ◌*◌, ◌/◌, ◌%◌, ◌<◌, ◌≤◌}
use native.Mathlib.Nat.{mul-one, mul_left_comm, le_of_suc-le-suc, not-suc-le-zero, eq-zero-or-pos}
use native.Mathlib.Decide.{dec_lt}
use native.Mathlib.Omega.{arith}
use lib.Dec.{T, T_not, eqb, eqb→eq, lit<}
use Rattle.simd.specs.Basic.{Family, small, large, points, sum}
use Rattle.simd.specs.Constants.{root}
use Rattle.simd.specs.Expansion.{power}
use Rattle.laws.proofs.Below.{below, below_at}
use Rattle.laws.proofs.Sum.{sum_scale}
use Rattle.laws.proofs.Regroup.{sum_first}
use Rattle.laws.proofs.Field.{Same, same_refl, same_of, same_sym, same_trans, same_mod, same_add, same_mul, same_eq, same_sum, power_lt, power_add}

-- The polynomial c 0 + c 1 x + .. + c (n - 1) x^(n - 1).
pub eval : ℕ → (ℕ → ℕ) → ℕ → ℕ
eval zero c x = 0
eval (suc n) c x = c 0 + x * eval n (λ j. c (suc j)) x

-- The quotient of a polynomial of n coefficients by x - a.
quotient : ℕ → (ℕ → ℕ) → ℕ → ℕ → ℕ
quotient zero c a k = 0
quotient (suc n) c a zero = eval n (λ j. c (suc j)) a
quotient (suc n) c a (suc k) = quotient n (λ j. c (suc j)) a k

-- p(x) - p(a) = (x - a) q(x).
factor : (n : ℕ) (c : ℕ → ℕ) (a x : ℕ)
    → eval (suc n) c x + a * eval n (quotient (suc n) c a) x ≡ eval (suc n) c a + x * eval n (quotient (suc n) c a) x
unfolding eval quotient
factor zero c a x = omega arith
factor (suc n) c a x = omega (arith, ap (λ v. x * v) (factor n (λ j. c (suc j)) a x))

-- A multiple of 0 is 0.
multiple : (a v : ℕ) → v % 257 ≡ 0 → a * v % 257 ≡ 0
multiple a v z =
    let e : v ≡ 257 * (v / 257) = omega arith in
    omega (arith, ap (λ u. a * u) e)

-- Where the quotient by x - a is 0 and a is a root, all coefficients are 0.
from_quotient : (n : ℕ) (c : ℕ → ℕ) (a : ℕ) → ((k : ℕ) → k < n → quotient (suc n) c a k % 257 ≡ 0) → eval (suc n) c a % 257 ≡ 0
    → (k : ℕ) → k < suc n → c k % 257 ≡ 0
unfolding eval quotient
from_quotient zero c a q r zero h = omega (arith, r)
from_quotient zero c a q r (suc k) h = omega arith
from_quotient (suc n) c a q r zero h = omega (arith, r, multiple a (eval (suc n) (λ j. c (suc j)) a) (q 0 (omega arith)))
from_quotient (suc n) c a q r (suc k) h =
    from_quotient n (λ j. c (suc j)) a (λ i l. q (suc i) (omega arith)) (q 0 (omega arith)) k (le_of_suc-le-suc h)

-- 257 is prime: each of 1 to 256 has an inverse, its 255th power.
has_inverse : ℕ → Bool
has_inverse k = eqb (suc k * power (suc k) 255 % 257) 1

inverses : T (below 256 has_inverse)
unfolding has_inverse power
inverses = tt

no_zero_divisor : (u v : ℕ) → u < 256 → suc u * v % 257 ≡ 0 → v % 257 ≡ 0
unfolding has_inverse
no_zero_divisor u v h z =
    let w : ℕ = power (suc u) 255 in
    let one : suc u * w % 257 ≡ 1 = eqb→eq (suc u * w % 257) 1 (below_at 256 has_inverse inverses u h) in
    let k : ℕ = suc u * w / 257 in
    let inverse : suc u * w ≡ 257 * k + 1 = omega arith in
    let vanishes : suc u * v ≡ 257 * (suc u * v / 257) = omega arith in
    omega (arith, ap (λ s. s * v) inverse, ap (λ s. w * s) vanishes)

-- Two different residues do not agree on a multiple of v unless v is 0.
cancel : (a x v : ℕ) → a < 257 → x < 257 → a ≢ x → a * v % 257 ≡ x * v % 257 → v % 257 ≡ 0
cancel a x v ha hx d e = elim (dec_lt a x) [ yes l ↦ up a x l hx e | no l ↦ up x a (omega (arith, d, l)) ha (sym e) ]
  where
    up : (a x : ℕ) → a < x → x < 257 → a * v % 257 ≡ x * v % 257 → v % 257 ≡ 0
    up a x l h e =
        let split : x ≡ a + suc (x - suc a) = omega arith in
        no_zero_divisor (x - suc a) v (omega arith) (omega (arith, e, ap (λ s. s * v) split))

-- A polynomial of n coefficients that is 0 at n of N different points has only coefficients that are 0.
-- g is 0 at roots only, so that its sum counts at least the points that are no roots.
pub few_roots : (N : ℕ) (x : ℕ → ℕ) → ((i : ℕ) → i < N → x i < 257) → ((i j : ℕ) → i < j → j < N → x i ≢ x j)
    → (n : ℕ) (c g : ℕ → ℕ) → ((i : ℕ) → i < N → g i ≡ 0 → eval n c (x i) % 257 ≡ 0) → sum N g + n ≤ N
    → (k : ℕ) → k < n → c k % 257 ≡ 0
unfolding sum
few_roots N x bound differ zero c g roots count k h = absurd (not-suc-le-zero h)
few_roots zero x bound differ (suc n) c g roots count k h = omega arith
few_roots (suc N) x bound differ (suc n) c g roots count k h =
    elim (eq-zero-or-pos (g N)) [
      | inl z ↦
          let root : eval (suc n) c (x N) % 257 ≡ 0 = roots N (omega arith) z in
          let others : (i : ℕ) → i < N → g i ≡ 0 → eval n (quotient (suc n) c (x N)) (x i) % 257 ≡ 0 =
          λ i l e.
          let here : eval (suc n) c (x i) % 257 ≡ 0 = roots i (omega arith) e in
          cancel (x N) (x i) (eval n (quotient (suc n) c (x N)) (x i)) (bound N (omega arith)) (bound i (omega arith))
          (λ s. differ i N l (omega arith) (sym s)) (omega (arith, factor n c (x N) (x i))) in
          from_quotient n c (x N)
          (few_roots N x (λ i l. bound i (omega arith)) (λ i j l m. differ i j l (omega arith)) n (quotient (suc n) c (x N)) g others (omega arith)) root k h
      | inr p ↦
          few_roots N x (λ i l. bound i (omega arith)) (λ i j l m. differ i j l (omega arith)) (suc n) c g (λ i l. roots i (omega arith)) (omega arith) k h
    ]

-- Sums and multiples of polynomials.
pub eval_plus : (n : ℕ) (c d : ℕ → ℕ) (m x : ℕ) → eval n (λ j. c j + m * d j) x ≡ eval n c x + m * eval n d x
unfolding eval
eval_plus zero c d m x = omega arith
eval_plus (suc n) c d m x = omega (arith, ap (λ v. x * v) (eval_plus n (λ j. c (suc j)) (λ j. d (suc j)) m x))

-- The value at x as the sum of the coefficients times the powers of x.
pub eval_sum : (n : ℕ) (c : ℕ → ℕ) (x : ℕ) → Same (sum n (λ j. c j * power x j)) (eval n c x)
unfolding eval power sum
eval_sum zero c x = same_refl 0
eval_sum (suc n) c x =
    let rest : ℕ → ℕ = λ j. c (suc j) in
    same_trans (same_of (sum_first n (λ j. c j * power x j)))
    (same_add (same_of (mul-one (c 0)))
    (same_trans
    (same_sum n (λ j. rest j * power x (suc j)) (λ j. x * (rest j * power x j))
    (λ j below. same_trans (same_mul (same_refl (rest j)) (same_mod (x * power x j))) (same_of (mul_left_comm (rest j) x (power x j)))))
    (same_trans (same_of (sum_scale x n (λ j. rest j * power x j))) (same_mul (same_refl x) (eval_sum n rest x)))))

-- Where the n-th power of w is 1 and none of the powers between is, the first n powers are different.
not_one : ℕ → ℕ → Bool
not_one w k = not (eqb (power w (suc k)) 1)

powers_differ : (w m : ℕ) → T (below m (not_one w)) → power w (suc m) ≡ 1 → (i j : ℕ) → i < j → j < suc m → power w i ≢ power w j
unfolding not_one
powers_differ w m test one i j l h e =
    let k : ℕ = i + (m - j) in
    let up : i + suc (m - j) ≡ suc k = omega arith in
    let round : j + suc (m - j) ≡ suc m = omega arith in
    let again : power w (suc k) ≡ 1 =
    same_eq
    (same_trans (same_of (ap (power w) (sym up)))
    (same_trans (power_add w i (suc (m - j)))
    (same_trans (same_of (ap (λ v. v * power w (suc (m - j))) e))
    (same_trans (same_sym (power_add w j (suc (m - j)))) (same_of (ap (power w) round ∙ one))))))
    (power_lt w (suc k)) (lit< tt) in
    T_not (eqb (power w (suc k)) 1) (below_at m (not_one w) test k (omega arith)) (subst (λ v. T (eqb v 1)) (sym again) tt)

-- The 32 R points of the transform are different.
pub roots_differ : (f : Family) (i j : ℕ) → i < j → j < points f → power (root f) i ≢ power (root f) j
unfolding not_one power
roots_differ small = powers_differ 139 127 tt refl
roots_differ large = powers_differ 41 255 tt refl
