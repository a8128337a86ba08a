-- The four even and the four odd values of four numbers. 41^32 is 4: each value is a sum of the numbers times powers of 4 modulo 257, and the
-- computed powers are those in the code, -1 being 256.
use mathlib.Core.List.{[], ◌∷◌}
use mathlib.Core.Path.{◌≡◌}
use Prim.Native.Nat.{ℕ, zero, suc, ◌+◌, ◌*◌, ◌-◌, ◌%◌, ◌≤◌, ◌<◌}
use native.Mathlib.Omega.{arith}
use lib.ListN.{get_or}
use Rattle.simd.specs.Expansion.{power}
use Rattle.radix_8.specs.Pass.{four, Values}

-- Two numbers are the same modulo 257 if they are with multiples of 257 added.
same : (r s u v : ℕ) → r + 257 * u ≡ s + 257 * v → r % 257 ≡ s % 257
same r s u v h = omega arith

-- What holds of each of four numbers holds at each place of their list.
each : (P : ℕ → ℕ → Type 0) {r₀ r₁ r₂ r₃ : ℕ} → P 0 r₀ → P 1 r₁ → P 2 r₂ → P 3 r₃ → (j : ℕ) → j < 4 → P j (get_or (r₀ ∷ r₁ ∷ r₂ ∷ r₃ ∷ []) j 0)
each P p₀ p₁ p₂ p₃ zero h = p₀
each P p₀ p₁ p₂ p₃ (suc zero) h = p₁
each P p₀ p₁ p₂ p₃ (suc (suc zero)) h = p₂
each P p₀ p₁ p₂ p₃ (suc (suc (suc zero))) h = p₃
each P p₀ p₁ p₂ p₃ (suc (suc (suc (suc j)))) h = absurd (omega arith)

module _ (a b c d : ℕ) (bytes : (a ≤ 255) × (b ≤ 255) × (c ≤ 255)) where
  abbrev Value : ℕ → ℕ → ℕ → Type 0
  Value first j r = r % 257 ≡ four (2 * j + first) a b c d % 257

  abbrev Kept : ℕ → ℕ → Type 0
  Kept j r = (2570 ≤ r) × (r ≤ 45000)

  pub even_values : d ≤ 256
      → Values 0 a b c d
      ((a + c + 11051 + (b + d)) ∷ (a + 11051 - c + 16 * (b + 257 - d)) ∷ (a + c + 11051 - (b + d)) ∷ (a + 11051 - c - 16 * (b + 257 - d)) ∷ [])
  unfolding four power
  even_values small =
      record {
        value =
            each (Value 0) (same _ _ 0 43 (omega arith)) (same _ _ (c + d) 59 (omega arith)) (same _ _ (b + d) 43 (omega arith))
            (same _ _ (b + c) 27 (omega arith));
        within = each Kept (omega arith, omega arith) (omega arith, omega arith) (omega arith, omega arith) (omega arith, omega arith);
      }

  pub odd_values : d ≤ 511
      → Values 1 a b c d
      ((a + 16 * c + 2570 + 4 * (b + 16 * d)) ∷ (a + 25186 - 16 * c + 4 * (16 * b + d)) ∷ (a + 16 * c + 2570 + 33924 - 4 * (b + 16 * d))
      ∷ (a + 25186 - 16 * c - 4 * (16 * b + d)) ∷ [])
  unfolding four power
  odd_values small =
      record {
        value =
            each (Value 1) (same _ _ 0 10 (omega arith)) (same _ _ c 98 (omega arith)) (same _ _ (b + d) 142 (omega arith))
            (same _ _ (b + c + d) 98 (omega arith));
        within = each Kept (omega arith, omega arith) (omega arith, omega arith) (omega arith, omega arith) (omega arith, omega arith);
      }
