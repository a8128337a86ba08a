-- Arithmetic modulo 257, and the laws of `power`.
use mathlib.Core.Path.{◌≡◌, refl, sym, ap, ◌∙◌}
use Prim.Native.Nat.{ℕ, zero, suc, ◌+◌, ◌*◌, ◌/◌, ◌%◌, ◌<◌}
use native.Mathlib.Nat.{mul_comm}
use native.Mathlib.Omega.{arith}
use Rattle.simd.specs.Basic.{sum}
use Rattle.simd.specs.Expansion.{power}
use Rattle.simd.proofs.Horner.{power_add as power-sum}
pub use Rattle.simd.proofs.Horner.{power_lt, power_mul}

-- Two numbers are the same modulo 257. Minus x is written as 256 * x.
pub record Same (a b : ℕ) : Type 0 where
  pub same : a % 257 ≡ b % 257

pub same_refl : (a : ℕ) → Same a a
same_refl a = record { same = refl }

pub same_of : {a b : ℕ} → a ≡ b → Same a b
same_of e = record { same = ap (λ v. v % 257) e }

pub same_sym : {a b : ℕ} → Same a b → Same b a
same_sym s = record { same = sym s.same }

pub same_trans : {a b c : ℕ} → Same a b → Same b c → Same a c
same_trans s t = record { same = s.same ∙ t.same }

pub same_mod : (a : ℕ) → Same (a % 257) a
same_mod a = omega arith

pub same_add : {a b c d : ℕ} → Same a b → Same c d → Same (a + c) (b + d)
same_add s t = omega arith

-- A product modulo 257 goes by the remainder of its first factor.
mul_left : (a c : ℕ) → Same (a * c) (a % 257 * c)
mul_left a c =
    let split : a ≡ 257 * (a / 257) + a % 257 = omega arith in
    let product = ap (λ (v : ℕ). v * c) split in
    omega arith

pub same_mul : {a b c d : ℕ} → Same a b → Same c d → Same (a * c) (b * d)
same_mul {a} {b} {c} {d} s t =
    same_trans (mul_left a c)
    (same_trans (same_of (ap (λ (v : ℕ). v * c) s.same))
    (same_trans (same_sym (mul_left b c))
    (same_trans (same_of (mul_comm b c))
    (same_trans (mul_left c b)
    (same_trans (same_of (ap (λ (v : ℕ). v * b) t.same))
    (same_trans (same_sym (mul_left d b)) (same_of (mul_comm d b))))))))

-- Equal modulo 257 and below 257: equal.
pub same_eq : {a b : ℕ} → Same a b → a < 257 → b < 257 → a ≡ b
same_eq s ha hb = omega arith

pub same_sum : (n : ℕ) (g h : ℕ → ℕ) → ((i : ℕ) → i < n → Same (g i) (h i)) → Same (sum n g) (sum n h)
unfolding sum
same_sum zero g h e = same_refl 0
same_sum (suc n) g h e = same_add (same_sum n g h (λ i below. e i (omega arith))) (e n (omega arith))

pub power_zero : (w : ℕ) → power w zero ≡ 1
unfolding power
power_zero w = refl

pub power_suc : (w e : ℕ) → power w (suc e) ≡ w * power w e % 257
unfolding power
power_suc w e = refl

pub power_add : (w m n : ℕ) → Same (power w (m + n)) (power w m * power w n)
power_add w m n = same_trans (same_of (power-sum w m n)) (same_mod (power w m * power w n))

pub power_one : (e : ℕ) → power 1 e ≡ 1
unfolding power
power_one zero = refl
power_one (suc e) = ap (λ v. 1 * v % 257) (power_one e)

-- Where the n-th power is 1, so is the power at every multiple of n.
pub power_multiple : (w n k : ℕ) → power w n ≡ 1 → power w (n * k) ≡ 1
power_multiple w n k e = power_mul w n k ∙ ap (λ v. power v k) e ∙ power_one k

-- 41 has order 256, and its power at the half is -1. 139 is its square.
pub half_of_41 : power 41 128 ≡ 256
unfolding power
half_of_41 = refl

pub order_of_41 : power 41 256 ≡ 1
unfolding power
order_of_41 = refl

square_of_41 : power 41 2 ≡ 139
unfolding power
square_of_41 = refl

pub power_139 : (e : ℕ) → power 139 e ≡ power 41 (2 * e)
power_139 e = sym (power_mul 41 2 e ∙ ap (λ v. power v e) square_of_41)
