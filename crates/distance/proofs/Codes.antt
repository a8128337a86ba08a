-- The distance of the inner codes: the codes by 185, and those by 233, of two different values are at least 4 bits apart.
use mathlib.Core.Bool.{Bool}
use mathlib.Core.Logic.{◌≢◌}
use mathlib.Core.Path.{◌≡◌, sym, ap₂, ◌∙◌}
use Prim.Native.Nat.{ℕ, ◌+◌, ◌<◌, ◌≤◌}
use native.Mathlib.Decide.{dec_lt}
use native.Mathlib.Omega.{arith}
use lib.Dec.{T, leb, leb→le}
use lib.IntN.{ℤ, pos, negsuc, ◌*ℤ◌}
use Rattle.simd.specs.Expansion.{code, lift, residue, pair}
use Rattle.laws.proofs.Below.{below, below_at}
use Rattle.distance.specs.Apart.{apart}
use Rattle.distance.specs.Layers.{first_code, second_code}
use Rattle.distance.proofs.Bits.{ham, apart_ham, ham_cut, apart_sym}

residue_lt : (z : ℤ) → residue z < 65536
unfolding residue
residue_lt (pos n) = omega arith
residue_lt (negsuc n) = omega arith

code_lt : (c y : ℕ) → code c y < 65536
unfolding code
code_lt c y = residue_lt (pos c *ℤ lift y)

-- The bits apart of two words of Z are those of their two halves.
pub pair_apart : (c l h m k : ℕ)
    → apart 32 (pair c l h) (pair c m k) ≡ apart 16 (code c l) (code c m) + apart 16 (code c h) (code c k)
unfolding pair
pair_apart c l h m k =
    apart_ham 32 (pair c l h) (pair c m k)
    ∙ ham_cut 16 16 (code c l) (code c h) (code c m) (code c k) (code_lt c l) (code_lt c m)
    ∙ ap₂ (λ u v. u + v) (sym (apart_ham 16 (code c l) (code c m))) (sym (apart_ham 16 (code c h) (code c k)))

-- The test of the code by c at a value y: its code is at least 4 bits apart from that of each smaller value.
far : ℕ → ℕ → Bool
far c y = below y (λ z. leb 4 (ham 16 (code c y) (code c z)))

far_first : T (below 257 (far first_code))
unfolding far ham code lift residue
far_first = tt

far_second : T (below 257 (far second_code))
unfolding far ham code lift residue
far_second = tt

far_at : (c : ℕ) → T (below 257 (far c)) → (y z : ℕ) → y < 257 → z < y → 4 ≤ apart 16 (code c y) (code c z)
unfolding far
far_at c t y z h l =
    rw apart_ham
    (leb→le 4 (ham 16 (code c y) (code c z))
    (below_at y (λ v. leb 4 (ham 16 (code c y) (code c v))) (below_at 257 (far c) t y h) z l))

by_test : (c : ℕ) → T (below 257 (far c)) → (y z : ℕ) → y < 257 → z < 257 → y ≢ z → 4 ≤ apart 16 (code c y) (code c z)
by_test c t y z h k d =
    elim (dec_lt z y) [
      | yes l ↦ far_at c t y z h l
      | no l ↦ rw (apart_sym 16 (code c y) (code c z)) (far_at c t z y k (omega (arith, l, d)))
    ]

-- Codes of two different values differ in at least 4 of their 16 bits.
pub first_distance : (y z : ℕ) → y < 257 → z < 257 → y ≢ z → 4 ≤ apart 16 (code first_code y) (code first_code z)
first_distance = by_test first_code far_first

pub second_distance : (y z : ℕ) → y < 257 → z < 257 → y ≢ z → 4 ≤ apart 16 (code second_code y) (code second_code z)
second_distance = by_test second_code far_second
