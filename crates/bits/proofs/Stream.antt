-- Laws of bytes put behind a tail that may end within a byte.
use mathlib.Core.Bool.{Bool, true, false}
use mathlib.Core.List.{List}
use mathlib.Core.Path.{◌≡◌, refl, sym, ap, ◌∙◌}
use Prim.Native.Nat.{ℕ, zero, suc, ◌+◌, ◌*◌, ◌-◌, ◌/◌, ◌%◌, ◌^◌, ◌<◌, ◌≤◌}
use native.Mathlib.Nat.{mul-le-mul, le_of_suc-le-suc, mod-eq_of_lt, mod-lt, zero-div, zero-mul, add-zero}
use native.Mathlib.Numerals.{add-one}
use native.Mathlib.Omega.{arith}
use native.Mathlib.Decide.{dec_lt, ℕ_discrete}
use borrow.Author.Tests.{lt-ltb, le-ltb, le-leb, lt-leb}
use borrow.Rule.Slice.PartMut.{put_mid}
use lib.Dec.{lit<}
use lib.ListN.{length, get_or, drop, set, length-set, get_or-eq_default}
use lib.Pow.{pow_pos, pow-add, pow_mono, shl-shr}
use lib.Seq.{get_or-set_same, get_or-set_other}
use Rattle.simd.specs.Basic.{table}
use Rattle.simd.specs.Message.{bits_of}
use Rattle.laws.proofs.Table.{length_table, get_d_table, table_of}
use Rattle.laws.proofs.Bits.{value, value_zero, value_low, byte_value, byte_bits_of, bits_bits_of, length_bits_of, get_d_bits_of, value_none}
use Rattle.bits.specs.Zero.{all_zero, clear}
use Rattle.bits.specs.Shift.{carry_at, shifted, with_shifted}
use Rattle.bits.proofs.Zeros.{false_of, clear_at, clear_of, past_zero}
use Rattle.bits.proofs.Zeros.{bytes_past}
use Rattle.bits.proofs.Filling.{Filled, filled_none, filled_more}
use Rattle.bits.proofs.Parts.{put_before, put_part, put_after, put_length}

-- The scale of a byte that holds o bits.
pub scale_power : (o : ℕ) → o < 8 → (256 / 2 ^ o ≡ 2 ^ (8 - o)) × (256 / 2 ^ o ≤ 256) × (0 < 256 / 2 ^ o)
scale_power o below =
    let whole : 8 - o + o ≡ 8 = omega arith in
    let same : 256 / 2 ^ o ≡ 2 ^ (8 - o) = ap (λ (n : ℕ). n / 2 ^ o) (ap (λ (n : ℕ). 2 ^ n) (sym whole) ∙ pow-add 2 (8 - o) o) ∙ shl-shr (2 ^ (8 - o)) o in
    let top : 2 ^ (8 - o) ≤ 2 ^ 8 = pow_mono {i = 8 - o} {j = 8} (omega arith) in
    let bottom : 0 < 2 ^ (8 - o) = pow_pos (8 - o) in
    (same, rw same top, rw same bottom)

-- A byte times a scale fits 16 bits.
pub scaled_lt : {b scale : ℕ} → b < 256 → scale ≤ 256 → b * scale < 2 ^ 16
scaled_lt {b} {scale} byte small =
    let product : b * scale ≤ 255 * 256 = mul-le-mul (le_of_suc-le-suc byte) small in
    omega arith

-- The loop that writes the shifted source.
pub record Shifting (scale carry : ℕ) (src : List ℕ) (n i : ℕ) (dst : List ℕ) (held : ℕ) : Type 0 where
  pub filled : Filled n i (shifted scale carry src) dst
  pub within : i ≤ n
  pub carried : held ≡ carry_at scale carry src i
  pub small : held < 256

pub shifting_none : (scale carry : ℕ) (src dst : List ℕ) (held : ℕ) → held ≡ carry → held < 256 → Shifting scale carry src (length dst) 0 dst held
unfolding carry_at
shifting_none scale carry src dst held same small =
    record { filled = filled_none (length dst) (shifted scale carry src) dst refl; within = omega arith; carried = same; small = small }

pub shifting_more : (scale carry : ℕ) (src : List ℕ) (n i : ℕ) (dst : List ℕ) (held byte : ℕ)
    → Shifting scale carry src n i dst held → i < n → byte ≡ get_or src i 0
    → Shifting scale carry src n (i + 1) (set dst i ((held + byte * scale / 256) % 256)) (byte * scale % 256)
unfolding carry_at shifted
shifting_more scale carry src n i dst held byte s below read =
    let next : carry_at scale carry src (i + 1) ≡ get_or src i 0 * scale % 256 = ap (carry_at scale carry src) (add-one i) in
    let value : (held + byte * scale / 256) % 256 ≡ shifted scale carry src i = λ t. (s.carried t + read t * scale / 256) % 256 in
    record {
      filled = filled_more n i (shifted scale carry src) dst ((held + byte * scale / 256) % 256) s.filled below value;
      within = omega arith;
      carried = ap (λ (b : ℕ). b * scale % 256) read ∙ sym next;
      small = mod-lt (byte * scale) (lit< tt);
    }

same : (a b : Bool) → (a ≡ true → b ≡ true) → (b ≡ true → a ≡ true) → a ≡ b
same true b to from = sym (to refl)
same false true to from = from refl
same false false to from = refl

-- Bits of the byte that a place stands in.
module _ (bytes : List ℕ) (fits : (i : ℕ) → get_or bytes i 0 < 256) (q o e : ℕ) (eight : o + e ≡ 8) where
  low_bits : get_or bytes q 0 % 2 ^ e ≡ value e (λ t. get_or (bits_of bytes) (8 * q + (o + t)) 0)
  low_bits =
      let whole : get_or bytes q 0 ≡ value (o + e) (λ t. get_or (bits_of bytes) (8 * q + t) 0) =
      rw eight (sym (byte_bits_of bytes q (fits q)) ∙ byte_value (bits_of bytes) q) in
      rw whole (value_low o e (λ t. get_or (bits_of bytes) (8 * q + t) 0) (λ t. bits_bits_of bytes (8 * q + t)))

  place_set : (get_or bytes q 0 % 2 ^ e ≡ 0 → ⊥) → clear (8 * q + o) bytes ≡ false
  place_set other =
      false_of (clear (8 * q + o) bytes)
      (λ zeros.
      other (low_bits ∙ value_zero e (λ t. get_or (bits_of bytes) (8 * q + (o + t)) 0) (λ t _. clear_at (8 * q + o) bytes zeros (8 * q + (o + t)) (omega arith))))

  place_clear : get_or bytes q 0 % 2 ^ e ≡ 0 → clear (8 * q + o) bytes ≡ all_zero (drop (q + 1) bytes)
  place_clear none =
      same (clear (8 * q + o) bytes) (all_zero (drop (q + 1) bytes))
      (λ zeros. bytes_past (8 * q + o) (q + 1) bytes fits zeros (omega arith))
      (λ rest. clear_of (8 * q + o) bytes (zero_bit rest))
    where
      zero_bit : all_zero (drop (q + 1) bytes) ≡ true → (i : ℕ) → 8 * q + o ≤ i → get_or (bits_of bytes) i 0 ≡ 0
      zero_bit rest i past = elim (dec_lt i (8 * q + 8)) [
        | yes here ↦
            let place : 8 * q + (o + (i - (8 * q + o))) ≡ i = omega arith in
            rw place at (value_none e (λ t. get_or (bits_of bytes) (8 * q + (o + t)) 0) (sym low_bits ∙ none) (i - (8 * q + o)) (omega arith))
        | no behind ↦
            let place : 8 * (i / 8) + i % 8 ≡ i = omega arith in
            let byte : get_or bytes (i / 8) 0 ≡ 0 = past_zero (q + 1) bytes rest (i / 8) (omega arith) in
            let bit : get_or (bits_of bytes) (8 * (i / 8) + i % 8) 0 ≡ 0 =
            get_d_bits_of bytes (i / 8) (i % 8) (omega arith)
            ∙ ap (λ (b : ℕ). b / 2 ^ (7 - i % 8) % 2) byte
            ∙ ap (λ (b : ℕ). b % 2) (zero-div (2 ^ (7 - i % 8))) in
            rw place at bit
      ]

-- The same for a place in bits.
pub bits_end : (n : ℕ) (bytes : List ℕ) → length bytes ≤ n / 8 → clear n bytes ≡ true
bits_end n bytes past = clear_of n bytes (λ i beyond. get_or-eq_default (bits_of bytes) 0 {n = i} (omega (arith, length_bits_of bytes)))

pub bits_set : (n : ℕ) (bytes : List ℕ) → ((i : ℕ) → get_or bytes i 0 < 256) → (get_or bytes (n / 8) 0 % 2 ^ (8 - n % 8) ≡ 0 → ⊥) → clear n bytes ≡ false
bits_set n bytes fits other =
    let place : 8 * (n / 8) + n % 8 ≡ n = omega arith in
    rw place at (place_set bytes fits (n / 8) (n % 8) (8 - n % 8) (omega arith) other)

pub bits_clear : (n : ℕ) (bytes : List ℕ) → ((i : ℕ) → get_or bytes i 0 < 256) → get_or bytes (n / 8) 0 % 2 ^ (8 - n % 8) ≡ 0
    → clear n bytes ≡ all_zero (drop (n / 8 + 1) bytes)
bits_clear n bytes fits none =
    let place : 8 * (n / 8) + n % 8 ≡ n = omega arith in
    rw place at (place_clear bytes fits (n / 8) (n % 8) (8 - n % 8) (omega arith) none)

-- The carry stands behind the last byte of the source.
pub carry_lt : (scale carry : ℕ) (src : List ℕ) (i : ℕ) → carry < 256 → carry_at scale carry src i < 256
unfolding carry_at
carry_lt scale carry src zero small = small
carry_lt scale carry src (suc i) small = mod-lt (get_or src i 0 * scale) (lit< tt)

pub shifted_end : (scale carry : ℕ) (src : List ℕ) (i : ℕ) → carry < 256 → length src ≤ i → shifted scale carry src i ≡ carry_at scale carry src i
unfolding shifted
shifted_end scale carry src i small past =
    let none = get_or-eq_default src 0 {n = i} past in
    rw (none, zero-mul, zero-div, add-zero) (mod-eq_of_lt (carry_lt scale carry src i small))

-- A buffer into whose middle the shifted source was put, and then the carry behind it.
module _ (buffer : List ℕ) (at scale carry : ℕ) (src ys : List ℕ) (within : at + length src ≤ length buffer) (small : carry < 256)
    (wrote : ys ≡ table (length src) (shifted scale carry src)) where
  fits : length ys ≡ at + length src - at
  fits = ap length wrote ∙ omega (arith, length_table (length src) (shifted scale carry src))

  put : List ℕ
  put = put_mid at (at + length src - at) buffer ys

  with_shifted_before : (j : ℕ) → j < at → get_or put j 0 ≡ with_shifted buffer at scale carry src j
  unfolding put with_shifted
  with_shifted_before j before =
      rw (lt-ltb j at before) (put_before at (at + length src) buffer ys (omega arith) within fits j before)

  with_shifted_part : (j : ℕ) → at ≤ j → j < at + length src → get_or put j 0 ≡ with_shifted buffer at scale carry src j
  unfolding put with_shifted
  with_shifted_part j after before =
      let place : at + (j - at) ≡ j = omega arith in
      let byte = rw place at (put_part at (at + length src) buffer ys (omega arith) within fits (j - at) (omega arith)) in
      rw (le-ltb j at after, le-leb (j - at) (length src) (omega arith))
      (byte ∙ ap (λ (l : List ℕ). get_or l (j - at) 0) wrote ∙ get_d_table (length src) (shifted scale carry src) (j - at) 0 (omega arith))

  with_shifted_after : (j : ℕ) → at + length src < j → get_or put j 0 ≡ with_shifted buffer at scale carry src j
  unfolding put with_shifted
  with_shifted_after j after =
      rw (le-ltb j at (omega arith), lt-leb (j - at) (length src) (omega arith))
      (put_after at (at + length src) buffer ys (omega arith) within fits j (omega arith))

  with_shifted_carry : carry_at scale carry src (length src) ≡ with_shifted buffer at scale carry src (at + length src)
  unfolding with_shifted
  with_shifted_carry =
      let place : at + length src - at ≡ length src = omega arith in
      rw (le-ltb (at + length src) at (omega arith), place, le-leb (length src) (length src) (omega arith))
      (sym (shifted_end scale carry src (length src) small (omega arith)))

  put_size : length put ≡ length buffer
  unfolding put
  put_size = put_length at (at + length src) buffer ys (omega arith) within fits

  pub with_shifted_full : length buffer ≤ at + length src
      → put_mid at (at + length src - at) buffer ys ≡ table (length buffer) (with_shifted buffer at scale carry src)
  unfolding put
  with_shifted_full full =
      table_of 0 (length buffer) (with_shifted buffer at scale carry src) put put_size
      (λ j below. elim (dec_lt j at) [
        | yes before ↦ with_shifted_before j before
        | no after ↦ with_shifted_part j (omega arith) (omega arith)
      ])

  pub with_shifted_set : (last : ℕ) → last ≡ carry_at scale carry src (length src) → at + length src < length buffer
      → set (put_mid at (at + length src - at) buffer ys) (at + length src) last ≡ table (length buffer) (with_shifted buffer at scale carry src)
  unfolding put
  with_shifted_set last carried more =
      table_of 0 (length buffer) (with_shifted buffer at scale carry src) (set put (at + length src) last)
      (length-set put (at + length src) last ∙ put_size)
      (λ j below. each j)
    where
      each : (j : ℕ) → get_or (set put (at + length src) last) j 0 ≡ with_shifted buffer at scale carry src j
      each j = elim (ℕ_discrete j (at + length src)) [
        | yes same ↦
            rw same (get_or-set_same put (at + length src) last 0 (omega (arith, put_size)) ∙ carried ∙ with_shifted_carry)
        | no other ↦
            get_or-set_other put (at + length src) j last 0 other
            ∙ elim (dec_lt j at) [
              | yes before ↦ with_shifted_before j before
              | no after ↦ elim (dec_lt j (at + length src)) [
                | yes inside ↦ with_shifted_part j (omega arith) inside
                | no behind ↦ with_shifted_after j (omega arith)
              ]
            ]
      ]
