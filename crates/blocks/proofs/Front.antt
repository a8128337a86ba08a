-- A copy of the bytes that hold the first bits of a byte string, with zeros behind: all bytes but the last are those of the bits, and where it is
-- cut at the last bit, that one too.
use mathlib.Core.Bool.{true}
use mathlib.Core.List.{List}
use mathlib.Core.Path.{◌≡◌, sym, ap, ◌∙◌}
use Prim.Native.Nat.{ℕ, ◌+◌, ◌*◌, ◌-◌, ◌/◌, ◌%◌, ◌^◌, ◌<◌, ◌≤◌}
use native.Mathlib.Decide.{dec_lt}
use native.Mathlib.Nat.{zero-add}
use native.Mathlib.Omega.{arith}
use lib.ListN.{length, get_or, take, drop, length-take, get_or-eq_default}
use lib.Seq.{get_or-take}
use Rattle.simd.specs.Basic.{table}
use Rattle.simd.specs.Message.{bits_of, byte_of, message}
use Rattle.laws.proofs.Table.{length_table, get_d_table, table_ext}
use Rattle.laws.proofs.Bits.{byte_ext, get_d_bits_of, get_d_take_past}
use Rattle.bits.specs.Zero.{all_zero}
use Rattle.bits.proofs.Zeros.{zero_past}
use Rattle.bits.proofs.Front.{before_cut, behind_cut}

module _ (bytes : List ℕ) (n u size : ℕ) (used : u ≡ (n + 7) / 8) (within : n ≤ 8 * length bytes) (b : List ℕ)
    (copied : b ≡ table size (λ j. get_or (take u bytes) (0 + j) 0)) where
  here : (j : ℕ) → j < u → get_or (take u bytes) (0 + j) 0 ≡ get_or bytes j 0
  here j below = ap (λ (k : ℕ). get_or (take u bytes) k 0) (zero-add j) ∙ get_or-take u bytes j 0 below

  past : (j : ℕ) → u ≤ j → get_or (take u bytes) (0 + j) 0 ≡ 0
  past j after =
      ap (λ (k : ℕ). get_or (take u bytes) k 0) (zero-add j)
      ∙ get_or-eq_default (take u bytes) 0 {n = j} (omega (arith, length-take u bytes))

  pub rest : all_zero (drop (n / 8 + 2) b) ≡ true
  rest =
      zero_past (n / 8 + 2) b
      (λ i from below.
      ap (λ (l : List ℕ). get_or l i 0) copied ∙ get_d_table size _ i 0 (omega (arith, ap length copied ∙ length_table size _)) ∙ past i (omega arith))

  -- Whole bytes.
  pub whole : n % 8 ≡ 0 → ((j : ℕ) → get_or bytes j 0 < 256) → b ≡ table size (byte_of (message bytes n))
  whole even fits = copied ∙ table_ext size _ _ (λ j _. each j)
    where
      each : (j : ℕ) → get_or (take u bytes) (0 + j) 0 ≡ byte_of (message bytes n) j
      each j = elim (dec_lt j u) [
        | yes below ↦ here j below ∙ sym (before_cut bytes n j (fits j) (omega arith))
        | no after ↦ past j (omega arith) ∙ sym (behind_cut bytes n j (omega arith))
      ]

  -- Cut at the last bit.
  pub cut : {c : List ℕ} → c ≡ table (length b) (byte_of (message b n)) → c ≡ table size (byte_of (message bytes n))
  unfolding message
  cut {c} cleared =
      cleared ∙ (λ i. table (long i) (byte_of (take n (bits_of b)))) ∙ table_ext size _ _ (λ j below. byte_ext _ _ j j (bit j below))
    where
      long : length b ≡ size
      long = ap length copied ∙ length_table size _

      bit : (j : ℕ) → j < size → (t : ℕ) → t < 8 → get_or (take n (bits_of b)) (8 * j + t) 0 ≡ get_or (take n (bits_of bytes)) (8 * j + t) 0
      bit j below t eight = elim (dec_lt (8 * j + t) n) [
        | yes before ↦
            let same : get_or b j 0 ≡ get_or bytes j 0 = ap (λ (l : List ℕ). get_or l j 0) copied ∙ get_d_table size _ j 0 below ∙ here j (omega arith) in
            get_or-take n (bits_of b) (8 * j + t) 0 before
            ∙ get_d_bits_of b j t eight
            ∙ ap (λ (x : ℕ). x / 2 ^ (7 - t) % 2) same
            ∙ sym (get_d_bits_of bytes j t eight)
            ∙ sym (get_or-take n (bits_of bytes) (8 * j + t) 0 before)
        | no after ↦
            get_d_take_past n (bits_of b) (8 * j + t) (omega arith) ∙ sym (get_d_take_past n (bits_of bytes) (8 * j + t) (omega arith))
      ]
