-- The inner code on the machine's signed numbers: what the lift is, how large a product gets, and its residue.
use mathlib.Core.Path.{◌≡◌, refl, ap}
use Prim.Native.Nat.{ℕ, zero, suc, ◌+◌, ◌*◌, ◌-◌, ◌%◌, ◌<◌, ◌≤◌}
use native.Mathlib.Nat.{mul-le-mul, le_refl, le-suc}
use native.Mathlib.Decide.{dec_le}
use native.Mathlib.Omega.{arith}
use lib.IntN.{ℤ, pos, negsuc, neg_ℤ, ◌+ℤ◌, ◌-ℤ◌, ◌*ℤ◌}
use lib.Signed.{mag}
use borrow.Author.Tests.{le-leb, lt-leb, lt-ltb, le-ltb}
use Rattle.simd.specs.Expansion.{lift, residue}

pub lift_low : (y : ℕ) → y ≤ 128 → lift y ≡ pos y
unfolding lift
lift_low y h = rw (le-leb y 128 h)

pub lift_high : (y : ℕ) → 128 < y → lift y ≡ pos y -ℤ pos 257
unfolding lift
lift_high y h = rw (lt-leb y 128 h)

-- Above 128 the lift is negative.
pub centred : (y : ℕ) → y < 257 → pos y -ℤ pos 257 ≡ negsuc (256 - y)
centred y h = rw (lt-ltb y 257 h) (ap negsuc (omega arith))

pub minus_none : (y : ℕ) → pos y -ℤ pos 0 ≡ pos y
minus_none y = ap pos (omega arith)

-- A lift is small.
pub lift_mag : (y : ℕ) → y < 257 → mag (lift y) < 257
lift_mag y h = bounded (dec_le y 128)
  where
    bounded : Dec (y ≤ 128) → mag (lift y) < 257
    bounded (yes low) = rw (lift_low y low) (omega arith)
    bounded (no high) = rw (lift_high y (omega arith), centred y h) (omega arith)

mag_neg : (n : ℕ) → mag (neg_ℤ (pos n)) ≤ n
mag_neg zero = le_refl zero
mag_neg (suc n) = le-suc n

-- A byte times a lift is well within 16 bits and a sign.
pub product_mag : (c y : ℕ) → c < 256 → y < 257 → mag (pos c *ℤ lift y) < 65536
product_mag c y hc hy = bounded (dec_le y 128)
  where
    bounded : Dec (y ≤ 128) → mag (pos c *ℤ lift y) < 65536
    bounded (yes low) = rw (lift_low y low) (omega (arith, mul-le-mul {n₁ = c} {m₁ = y} {n₂ = 255} {m₂ = 128} (omega arith) low))
    bounded (no high) =
        rw (lift_high y (omega arith), centred y hy)
        (omega (arith, mag_neg (c * suc (256 - y)), mul-le-mul {n₁ = c} {m₁ = suc (256 - y)} {n₂ = 255} {m₂ = 128} (omega arith) (omega arith)))

-- z + 65536, for z above -65537.
unfoldable pub raised : ℤ → ℕ
raised (pos n) = n + 65536
raised (negsuc n) = 65535 - n

pub raised_is : (z : ℤ) → mag z < 65536 → z +ℤ pos 65536 ≡ pos (raised z)
unfolding raised
raised_is (pos n) h = refl
raised_is (negsuc n) h = rw (le-ltb 65536 (suc n) h) (ap pos (omega arith))

pub raised_lt : (z : ℤ) → mag z < 65536 → raised z < 131072
unfolding raised
raised_lt (pos n) h = omega arith
raised_lt (negsuc n) h = omega arith

pub raised_residue : (z : ℤ) → mag z < 65536 → raised z % 65536 ≡ residue z
unfolding raised residue
raised_residue (pos n) h = omega arith
raised_residue (negsuc n) h = omega arith
