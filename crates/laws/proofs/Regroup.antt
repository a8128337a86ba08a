-- Sums taken in another order.
use mathlib.Core.Path.{◌≡◌, ◌∙◌}
use Prim.Native.Nat.{ℕ, zero, suc, ◌+◌, ◌*◌, ◌<◌, ◌≤◌}
use native.Mathlib.Nat.{add-zero, zero-add, mul-zero, mul-suc}
use native.Mathlib.Omega.{arith}
use Rattle.simd.specs.Basic.{sum}
pub use Rattle.simd.proofs.Horner.{sum_first}
use Rattle.laws.proofs.Sum.{sum_ext, sum_append}

-- Smaller terms, smaller sum.
pub sum_le : (n : ℕ) (g h : ℕ → ℕ) → ((i : ℕ) → i < n → g i ≤ h i) → sum n g ≤ sum n h
unfolding sum
sum_le zero g h e = omega arith
sum_le (suc n) g h e = omega (arith, sum_le n g h (λ i below. e i (omega arith)), e n (omega arith))

-- m blocks of n terms each.
pub sum_blocks : (m n : ℕ) (g : ℕ → ℕ) → sum m (λ i. sum n (λ j. g (n * i + j))) ≡ sum (n * m) g
unfolding sum
sum_blocks zero n g = rw mul-zero
sum_blocks (suc m) n g = rw mul-suc (omega (arith, sum_blocks m n g, sum_append (n * m) n g))

-- Terms taken by twos.
pub sum_pairs : (n : ℕ) (g : ℕ → ℕ) → sum n (λ j. g (2 * j) + g (2 * j + 1)) ≡ sum (2 * n) g
unfolding sum
sum_pairs n g = sum_ext n _ _ (λ j below. rw (add-zero (2 * j), zero-add)) ∙ sum_blocks n 2 g
