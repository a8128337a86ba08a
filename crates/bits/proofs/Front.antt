-- Laws of a byte string of which the bits from a place on are made 0: bytes before that place stay, the byte it stands in keeps its first bits,
-- those behind are 0.
use mathlib.Core.Bool.{true}
use mathlib.Core.List.{List}
use mathlib.Core.Path.{◌≡◌, refl, sym, ap, ◌∙◌}
use Prim.Native.Nat.{ℕ, ◌+◌, ◌*◌, ◌-◌, ◌/◌, ◌%◌, ◌^◌, ◌<◌, ◌≤◌}
use native.Mathlib.Nat.{add-zero}
use native.Mathlib.Omega.{arith}
use native.Mathlib.Decide.{dec_lt, ℕ_discrete}
use lib.ListN.{length, get_or, take, drop, set, length-take, length-set, get_or-eq_default}
use lib.Seq.{get_or-take, get_or-set_same, get_or-set_other}
use Rattle.simd.specs.Basic.{table}
use Rattle.simd.specs.Message.{bits_of, byte_of, message}
use Rattle.laws.proofs.Table.{table_of}
use Rattle.laws.proofs.Bits.{value, value_ext, value_zero, value_append, value_high, byte_value, byte_ext, byte_past, byte_bits_of}
use Rattle.laws.proofs.Bits.{bits_bits_of, get_d_take_past}
use Rattle.bits.specs.Zero.{all_zero}
use Rattle.bits.proofs.Zeros.{past_zero}

module _ (bytes : List ℕ) (n : ℕ) where
  pub before_cut : (j : ℕ) → get_or bytes j 0 < 256 → 8 * j + 8 ≤ n → byte_of (message bytes n) j ≡ get_or bytes j 0
  unfolding message
  before_cut j fits before =
      byte_ext (take n (bits_of bytes)) (bits_of bytes) j j (λ t below. get_or-take n (bits_of bytes) (8 * j + t) 0 (omega arith))
      ∙ byte_bits_of bytes j fits

  pub behind_cut : (j : ℕ) → n ≤ 8 * j → byte_of (message bytes n) j ≡ 0
  unfolding message
  behind_cut j past = byte_past (take n (bits_of bytes)) j (omega (arith, length-take n (bits_of bytes)))

  -- The byte with o bits before the place and e behind it.
  pub at_cut : (q o e : ℕ) → get_or bytes q 0 < 256 → o + e ≡ 8 → n ≡ 8 * q + o → byte_of (message bytes n) q ≡ get_or bytes q 0 / 2 ^ e * 2 ^ e
  unfolding message
  at_cut q o e fits eight place =
      let m = take n (bits_of bytes) in
      let kept : ℕ → ℕ = λ t. get_or m (8 * q + t) 0 in
      let all : ℕ → ℕ = λ t. get_or (bits_of bytes) (8 * q + t) 0 in
      let front : value o kept ≡ value o all = value_ext o kept all (λ t below. get_or-take n (bits_of bytes) (8 * q + t) 0 (omega arith)) in
      let rest : value e (λ t. kept (o + t)) ≡ 0 =
      value_zero e (λ t. kept (o + t)) (λ t _. get_d_take_past n (bits_of bytes) (8 * q + (o + t)) (omega arith)) in
      let whole : get_or bytes q 0 ≡ value (o + e) all = rw eight (sym (byte_bits_of bytes q fits) ∙ byte_value (bits_of bytes) q) in
      let high : get_or bytes q 0 / 2 ^ e ≡ value o all =
      ap (λ (b : ℕ). b / 2 ^ e) whole ∙ value_high o e all (λ t. bits_bits_of bytes (8 * q + t)) in
      let split : value 8 kept ≡ value o kept * 2 ^ e + value e (λ t. kept (o + t)) = rw eight at (value_append o e kept) in
      byte_value m q ∙ split ∙ (λ i. front i * 2 ^ e + rest i) ∙ add-zero _ ∙ ap (λ (b : ℕ). b * 2 ^ e) (sym high)

-- The byte string whose byte at the place is b, with 0 behind it.
module _ (bytes : List ℕ) (n : ℕ) (fits : (j : ℕ) → get_or bytes j 0 < 256) (within : n / 8 < length bytes) (rest : all_zero (drop (n / 8 + 2) bytes) ≡ true)
    (b : ℕ) (kept : b ≡ get_or bytes (n / 8) 0 / 2 ^ (8 - n % 8) * 2 ^ (8 - n % 8)) where
  abbrev q : ℕ
  q = n / 8

  front_or_behind : (xs : List ℕ) → get_or xs (q + 1) 0 ≡ 0
      → ((j : ℕ) → (j ≡ q + 1 → ⊥) → get_or xs j 0 ≡ get_or (set bytes q b) j 0) → (j : ℕ) → get_or xs j 0 ≡ byte_of (message bytes n) j
  front_or_behind xs next same j = elim (ℕ_discrete j (q + 1)) [
    | yes e ↦ ap (λ (k : ℕ). get_or xs k 0) e ∙ next ∙ sym (behind_cut bytes n j (omega arith))
    | no beside ↦ same j beside ∙ elim (ℕ_discrete j q) [
      | yes e ↦
          rw e (get_or-set_same bytes q b 0 within ∙ kept ∙ sym (at_cut bytes n q (n % 8) (8 - n % 8) (fits q) (omega arith) (omega arith)))
      | no other ↦ get_or-set_other bytes q j b 0 other ∙ elim (dec_lt j q) [
        | yes before ↦ sym (before_cut bytes n j (fits j) (omega arith))
        | no past ↦ past_zero (q + 2) bytes rest j (omega arith) ∙ sym (behind_cut bytes n j (omega arith))
      ]
    ]
  ]

  pub cut_inside : q + 1 < length bytes → set (set bytes q b) (q + 1) 0 ≡ table (length bytes) (byte_of (message bytes n))
  cut_inside inside =
      let long = length-set (set bytes q b) (q + 1) 0 ∙ length-set bytes q b in
      table_of 0 (length bytes) (byte_of (message bytes n)) (set (set bytes q b) (q + 1) 0) long
      (λ j _.
      front_or_behind (set (set bytes q b) (q + 1) 0) (get_or-set_same (set bytes q b) (q + 1) 0 0 (omega (arith, length-set bytes q b)))
      (λ j beside. get_or-set_other (set bytes q b) (q + 1) j 0 0 beside) j)

  pub cut_at_end : (q + 1 < length bytes → ⊥) → set bytes q b ≡ table (length bytes) (byte_of (message bytes n))
  cut_at_end end =
      table_of 0 (length bytes) (byte_of (message bytes n)) (set bytes q b) (length-set bytes q b)
      (λ j _.
      front_or_behind (set bytes q b) (get_or-eq_default (set bytes q b) 0 {n = q + 1} (omega (arith, length-set bytes q b))) (λ j _. refl) j)
