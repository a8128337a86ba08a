-- Products modulo 257, and butterflies made of them. The quotient by 257 is found as the upper half of a product by 255, since 255 * 257 is
-- 65536 - 1.
use Rattle.std.proofs.Common.{◌≡◌, ℕ, ◌+◌, ◌-◌, ◌*◌, ◌/◌, ◌%◌, ◌<◌, ◌≤◌, ap, ◌∙◌, mul-le-mul, arith}
use native.Mathlib.Nat.{le-pred_of_lt}
use Rattle.transform_stages.specs.Stage.{Butterfly}

pub product_bound : (f y : ℕ) → f < 257 → y < 65536 → f * y ≤ 256 * 65535
product_bound f y hf hy = mul-le-mul (le-pred_of_lt hf) (le-pred_of_lt hy)

quotient_low : (p : ℕ) → 257 * (255 * p / 65536) ≤ p
quotient_low p = omega arith

quotient_high : (p : ℕ) → p ≤ 256 * 65535 → p ≤ 257 * (255 * p / 65536) + 512
quotient_high p h = omega arith

cancel : (u d r : ℕ) → d < 65536 → r < 65536 → (r + u % 65536) % 65536 ≡ (u + d) % 65536 → r ≡ d
cancel u d r hd hr e = omega arith

minus_multiple : (p q : ℕ) → 257 * q ≤ p → (p - 257 * q) % 257 ≡ p % 257
minus_multiple p q h = omega arith

-- r is the difference of p and 257 times the quotient, both by their remainders modulo 65536.
pub reduced : (p r : ℕ) → p ≤ 256 * 65535 → r < 65536 → (r + 255 * p / 65536 * 257 % 65536) % 65536 ≡ p % 65536 → (r ≤ 512) × (r % 257 ≡ p % 257)
reduced p r hp hr e =
    let low = quotient_low p in
    let high = quotient_high p hp in
    let difference = cancel (255 * p / 65536 * 257) (p - 257 * (255 * p / 65536)) r (omega arith) hr (e ∙ ap (λ v. v % 65536) (omega arith)) in
    (omega arith, ap (λ v. v % 257) difference ∙ minus_multiple p (255 * p / 65536) low)

pub butterfly : (x f y b : ℕ) → 512 ≤ x → (b ≤ 512) × (b % 257 ≡ f * y % 257) → Butterfly x f y (x + b) (x - b)
butterfly x f y b high h =
    record { plus = omega arith; minus = omega arith; plus_bound = (omega arith, omega arith); minus_bound = (omega arith, omega arith) }
