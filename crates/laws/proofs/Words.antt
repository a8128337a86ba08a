-- Laws of words: rotation, and sum and difference modulo 2^32.
use mathlib.Core.Path.{◌≡◌, refl, sym, ap, ◌∙◌, subst}
use Prim.Native.Nat.{ℕ, zero, suc, ◌+◌, ◌*◌, ◌-◌, ◌/◌, ◌%◌, ◌^◌, ◌<◌, ◌≤◌}
use native.Mathlib.Nat.{add-zero, add_comm, mul-mod_left, mod-lt}
use native.Mathlib.Omega.{arith}
use lib.Bits.{bit_or, or_shifted, or_self}
use lib.Arith.{digits_lt}
use lib.Pow.{shl-shr, mod-pow-add, shr_lt, pow_pos, pow-add, low, high, split}
use Rattle.simd.specs.Steps.{add, rotl}

-- A word of 32 = k + m bits in two parts, h of k bits above l of m bits.
module _ (k m h l : ℕ) (whole : m + k ≡ 32) (fits_h : h < 2 ^ k) (fits_l : l < 2 ^ m) where
  shifted_left : (h * 2 ^ m + l) * 2 ^ k % 2 ^ 32 ≡ l * 2 ^ k
  shifted_left =
      ap (λ n. (h * 2 ^ m + l) * 2 ^ k % 2 ^ n) (sym whole)
      ∙ mod-pow-add ((h * 2 ^ m + l) * 2 ^ k) m k
      ∙ rw (shl-shr (h * 2 ^ m + l) k, low h m fits_l, mul-mod_left (h * 2 ^ m + l) (2 ^ k)) (add-zero (l * 2 ^ k))

  shifted_right : (h * 2 ^ m + l) / 2 ^ (32 - k) ≡ h
  shifted_right =
      let rest : 32 - k ≡ m = omega arith in
      ap (λ n. (h * 2 ^ m + l) / 2 ^ n) rest ∙ high h m fits_l

  -- Rotation exchanges the parts.
  rotl_parts : rotl k (h * 2 ^ m + l) ≡ l * 2 ^ k + h
  unfolding rotl
  rotl_parts = rw (shifted_left, shifted_right)

  shifts_parts : bit_or ((h * 2 ^ m + l) * 2 ^ k % 2 ^ 32) ((h * 2 ^ m + l) / 2 ^ (32 - k)) ≡ l * 2 ^ k + h
  shifts_parts = rw (shifted_left, shifted_right) (or_shifted l k h fits_h)

  joined_lt : l * 2 ^ k + h < 2 ^ 32
  joined_lt = subst (λ n. l * 2 ^ k + h < n) (sym (pow-add 2 m k) ∙ ap (λ n. 2 ^ n) whole) (digits_lt fits_l fits_h)

module _ (r x : ℕ) (some : 0 < r) (less : r < 32) (fits : x < 2 ^ 32) where
  whole : (32 - r) + r ≡ 32
  whole = omega arith

  top : x / 2 ^ (32 - r) < 2 ^ r
  top = shr_lt r (32 - r) (subst (λ n. x < 2 ^ n) (sym whole ∙ add_comm (32 - r) r) fits)

  bottom : x % 2 ^ (32 - r) < 2 ^ (32 - r)
  bottom = mod-lt x (pow_pos (32 - r))

  parts : x / 2 ^ (32 - r) * 2 ^ (32 - r) + x % 2 ^ (32 - r) ≡ x
  parts = split x (32 - r)

  rotl_swaps : rotl r x ≡ x % 2 ^ (32 - r) * 2 ^ r + x / 2 ^ (32 - r)
  rotl_swaps = ap (rotl r) (sym parts) ∙ rotl_parts r (32 - r) (x / 2 ^ (32 - r)) (x % 2 ^ (32 - r)) whole top bottom

  -- The two shifts of the code are the rotation.
  rotl_shifts : bit_or (x * 2 ^ r % 2 ^ 32) (x / 2 ^ (32 - r)) ≡ rotl r x
  rotl_shifts =
      ap (λ n. bit_or (n * 2 ^ r % 2 ^ 32) (n / 2 ^ (32 - r))) (sym parts)
      ∙ shifts_parts r (32 - r) (x / 2 ^ (32 - r)) (x % 2 ^ (32 - r)) whole top bottom
      ∙ sym rotl_swaps

  pub rotl_lt : rotl r x < 2 ^ 32
  rotl_lt = subst (λ n. n < 2 ^ 32) (sym rotl_swaps) (joined_lt r (32 - r) (x / 2 ^ (32 - r)) (x % 2 ^ (32 - r)) whole top bottom)

  -- The opposite rotation undoes it.
  pub rotl_back : rotl (32 - r) (rotl r x) ≡ x
  rotl_back =
      ap (rotl (32 - r)) rotl_swaps
      ∙ rotl_parts (32 - r) r (x % 2 ^ (32 - r)) (x / 2 ^ (32 - r)) (omega arith) bottom top
      ∙ parts

-- Rotation by 0 leaves a word.
rotl_none : (x : ℕ) → x < 2 ^ 32 → rotl 0 x ≡ x
unfolding rotl
rotl_none x fits = omega arith

-- The code's rotation by k, which may be 0.
pub rotl_code : (k x : ℕ) → k < 32 → x < 2 ^ 32 → bit_or (x * 2 ^ k % 2 ^ 32) (x / 2 ^ ((32 - k) % 32)) ≡ rotl k x
rotl_code zero x less fits =
    let left : x * 1 % 2 ^ 32 ≡ x = omega arith in
    let right : x / 1 ≡ x = omega arith in
    rw (left, right) (or_self x ∙ sym (rotl_none x fits))
rotl_code (suc k) x less fits =
    let rest : (32 - suc k) % 32 ≡ 32 - suc k = omega arith in
    ap (λ n. bit_or (x * 2 ^ suc k % 2 ^ 32) (x / 2 ^ n)) rest ∙ rotl_shifts (suc k) x (omega arith) less fits

pub rotl_forth : (r x : ℕ) → 0 < r → r < 32 → x < 2 ^ 32 → rotl r (rotl (32 - r) x) ≡ x
rotl_forth r x some less fits =
    let again : 32 - (32 - r) ≡ r = omega arith in
    subst (λ k. rotl k (rotl (32 - r) x) ≡ x) again (rotl_back (32 - r) x (omega arith) (omega arith) fits)

pub add_lt : (x y : ℕ) → add x y < 2 ^ 32
unfolding add
add_lt x y = omega arith
