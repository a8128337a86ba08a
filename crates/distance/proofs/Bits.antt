-- The bits apart of two numbers.
use mathlib.Core.Bool.{cond}
use mathlib.Core.Logic.{◌≢◌}
use mathlib.Core.Path.{◌≡◌, refl, sym, ap, ap₂, ◌∙◌}
use Prim.Native.Nat.{ℕ, zero, suc, ◌+◌, ◌*◌, ◌/◌, ◌%◌, ◌^◌, ◌<◌}
use native.Mathlib.Nat.{add_assoc, mul_assoc, zero-add, suc-add, pow-succ', div-div-eq-div-mul}
use native.Mathlib.Decide.{ℕ_discrete}
use native.Mathlib.Omega.{arith}
use borrow.Author.Tests.{eq-eqb, ne_eqb}
use Rattle.simd.specs.Basic.{sum}
use Rattle.laws.proofs.Regroup.{sum_first}
use Rattle.laws.proofs.Sum.{sum_ext}
use Rattle.distance.specs.Apart.{differ, apart}

pub differ_same : (x y : ℕ) → x ≡ y → differ x y ≡ 0
unfolding differ
differ_same x y e = ap (λ t. cond t 0 1) (eq-eqb x y e)

pub differ_other : (x y : ℕ) → x ≢ y → differ x y ≡ 1
unfolding differ
differ_other x y d = ap (λ t. cond t 0 1) (ne_eqb x y d)

pub differ_zero : (x y : ℕ) → differ x y ≡ 0 → x ≡ y
differ_zero x y z = elim (ℕ_discrete x y) [ yes e ↦ e | no d ↦ omega (arith, differ_other x y d) ]

differ_bits : (x y : ℕ) → differ (x % 2) (y % 2) ≡ (x + y) % 2
differ_bits x y =
    elim (ℕ_discrete (x % 2) (y % 2)) [
      | yes e ↦ differ_same (x % 2) (y % 2) e ∙ omega arith
      | no d ↦ differ_other (x % 2) (y % 2) d ∙ omega arith
    ]

-- The count of `apart`, lowest bit first, in a form that is quick to compute.
unfoldable pub ham : ℕ → ℕ → ℕ → ℕ
ham zero x y = 0
ham (suc n) x y = (x + y) % 2 + ham n (x / 2) (y / 2)

halves : (x t : ℕ) → x / 2 ^ suc t ≡ x / 2 / 2 ^ t
halves x t = ap (λ p. x / p) (pow-succ' 2 t) ∙ sym (div-div-eq-div-mul x 2 (2 ^ t))

pub apart_ham : (n x y : ℕ) → apart n x y ≡ ham n x y
unfolding apart ham sum
apart_ham zero x y = refl
apart_ham (suc n) x y =
    let rest = sum_ext n _ _ (λ t below. ap₂ (λ u v. differ (u % 2) (v % 2)) (halves x t) (halves y t)) in
    omega (arith, sum_first n (λ t. differ (x / 2 ^ t % 2) (y / 2 ^ t % 2)), differ_bits (x / 1) (y / 1), rest, apart_ham n (x / 2) (y / 2))

-- Two words, cut after their m lowest bits.
pub ham_cut : (m n a b c d : ℕ) → a < 2 ^ m → c < 2 ^ m → ham (m + n) (a + 2 ^ m * b) (c + 2 ^ m * d) ≡ ham m a c + ham n b d
unfolding ham
ham_cut zero n a b c d h k =
    let x : a + 2 ^ 0 * b ≡ b = omega arith in
    let y : c + 2 ^ 0 * d ≡ d = omega arith in
    rw (zero-add n, x, y) (sym (zero-add (ham n b d)))
ham_cut (suc m) n a b c d h k =
    let up : (e : ℕ) → 2 ^ suc m * e ≡ 2 * (2 ^ m * e) = λ e. ap (λ p. p * e) (pow-succ' 2 m) ∙ mul_assoc 2 (2 ^ m) e in
    let low : (a + 2 ^ suc m * b + (c + 2 ^ suc m * d)) % 2 ≡ (a + c) % 2 = omega (arith, up b, up d) in
    let x : (a + 2 ^ suc m * b) / 2 ≡ a / 2 + 2 ^ m * b = omega (arith, up b) in
    let y : (c + 2 ^ suc m * d) / 2 ≡ c / 2 + 2 ^ m * d = omega (arith, up d) in
    rw (suc-add m n, x, y, low)
    (ap (λ v. (a + c) % 2 + v) (ham_cut m n (a / 2) b (c / 2) d (omega arith) (omega arith))
    ∙ sym (add_assoc ((a + c) % 2) (ham m (a / 2) (c / 2)) (ham n b d)))

differ_sym : (x y : ℕ) → differ x y ≡ differ y x
differ_sym x y =
    elim (ℕ_discrete x y) [
      | yes e ↦ differ_same x y e ∙ sym (differ_same y x (sym e))
      | no d ↦ differ_other x y d ∙ sym (differ_other y x (λ e. d (sym e)))
    ]

pub apart_sym : (n x y : ℕ) → apart n x y ≡ apart n y x
unfolding apart
apart_sym n x y = sum_ext n _ _ (λ t below. differ_sym (x / 2 ^ t % 2) (y / 2 ^ t % 2))
