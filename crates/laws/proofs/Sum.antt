-- Laws of `sum`.
use mathlib.Core.Path.{◌≡◌, refl, sym, ap, ◌∙◌}
use Prim.Native.Nat.{ℕ, zero, suc, ◌+◌, ◌*◌, ◌<◌, ◌≤◌}
use native.Mathlib.Nat.{add-zero, zero-add, add-suc, mul-zero, mul-add}
use native.Mathlib.Omega.{arith}
use Rattle.simd.specs.Basic.{sum}

pub sum_suc : (n : ℕ) (g : ℕ → ℕ) → sum (suc n) g ≡ sum n g + g n
unfolding sum
sum_suc n g = refl

pub sum_ext : (n : ℕ) (g h : ℕ → ℕ) → ((i : ℕ) → i < n → g i ≡ h i) → sum n g ≡ sum n h
unfolding sum
sum_ext zero g h e = refl
sum_ext (suc n) g h e = omega (arith, sum_ext n g h (λ i below. e i (omega arith)), e n (omega arith))

pub sum_zero : (n : ℕ) (g : ℕ → ℕ) → ((i : ℕ) → i < n → g i ≡ 0) → sum n g ≡ 0
unfolding sum
sum_zero zero g e = refl
sum_zero (suc n) g e = omega (arith, sum_zero n g (λ i below. e i (omega arith)), e n (omega arith))

pub sum_plus : (n : ℕ) (g h : ℕ → ℕ) → sum n (λ i. g i + h i) ≡ sum n g + sum n h
unfolding sum
sum_plus zero g h = refl
sum_plus (suc n) g h = omega (arith, sum_plus n g h)

pub sum_scale : (c n : ℕ) (g : ℕ → ℕ) → sum n (λ i. c * g i) ≡ c * sum n g
unfolding sum
sum_scale c zero g = sym (mul-zero c)
sum_scale c (suc n) g = omega (arith, sum_scale c n g, mul-add c (sum n g) (g n))

-- A sum of m + n terms is the sum of the first m and that of the n after them.
pub sum_append : (m n : ℕ) (g : ℕ → ℕ) → sum (m + n) g ≡ sum m g + sum n (λ i. g (m + i))
unfolding sum
sum_append m zero g = rw (add-zero m, add-zero)
sum_append m (suc n) g = rw add-suc (omega (arith, sum_append m n g))
