-- Two messages of n bits are equal exactly where their whole bytes are and, of the byte in which n ends, the first bits.
use mathlib.Core.Bool.{true, false}
use mathlib.Core.List.{List}
use mathlib.Core.Path.{◌≡◌, sym, ap, ◌∙◌}
use Prim.Native.Nat.{ℕ, ◌*◌, ◌-◌, ◌/◌, ◌%◌, ◌^◌, ◌<◌, ◌≤◌}
use native.Mathlib.Decide.{dec_lt, ℕ_discrete}
use native.Mathlib.Omega.{arith}
use borrow.Author.Tests.{eq-eqb, ne_eqb}
use lib.Dec.{eqb}
use lib.ListN.{length, get_or, take, length-take}
use lib.Pow.{shl-shr}
use lib.Seq.{ext_get_or, get_or-take}
use Rattle.simd.specs.Message.{byte_of, message}
use Rattle.bits.proofs.Front.{before_cut, at_cut}
use Rattle.hash.proofs.Feeding.{length_message, bits_message}
use Rattle.pairs.specs.Lists.{equal}
use Rattle.pairs.proofs.ListLaws.{equal_true, equal_false, same_equal, not_equal}
use Rattle.pairs.proofs.MessageLaws.{bytes_ext}

module _ (x y : List ℕ) (n : ℕ) (fits_x : (j : ℕ) → get_or x j 0 < 256) (fits_y : (j : ℕ) → get_or y j 0 < 256) (within_x : n ≤ 8 * length x)
    (within_y : n ≤ 8 * length y) where
  abbrev q : ℕ
  q = n / 8

  abbrev e : ℕ
  e = 8 - n % 8

  whole_same : message x n ≡ message y n → take q x ≡ take q y
  whole_same same =
      ext_get_or 0 (take q x) (take q y) (omega (arith, length-take q x, length-take q y))
      (λ j below.
      let low : j < q = omega (arith, length-take q x) in
      get_or-take q x j 0 low ∙ sym (before_cut x n j (fits_x j) (omega arith)) ∙ ap (λ (m : List ℕ). byte_of m j) same
      ∙ before_cut y n j (fits_y j) (omega arith) ∙ sym (get_or-take q y j 0 low))

  last_byte : (l : List ℕ) → ((j : ℕ) → get_or l j 0 < 256) → byte_of (message l n) q ≡ get_or l q 0 / 2 ^ e * 2 ^ e
  last_byte l fits = at_cut l n q (n % 8) e (fits q) (omega arith) (omega arith)

  last_same : message x n ≡ message y n → get_or x q 0 / 2 ^ e ≡ get_or y q 0 / 2 ^ e
  last_same same =
      let kept : get_or x q 0 / 2 ^ e * 2 ^ e ≡ get_or y q 0 / 2 ^ e * 2 ^ e =
      sym (last_byte x fits_x) ∙ ap (λ (m : List ℕ). byte_of m q) same ∙ last_byte y fits_y in
      sym (shl-shr (get_or x q 0 / 2 ^ e) e) ∙ ap (λ (v : ℕ). v / 2 ^ e) kept ∙ shl-shr (get_or y q 0 / 2 ^ e) e

  both_same : take q x ≡ take q y → (8 * q < n → get_or x q 0 / 2 ^ e ≡ get_or y q 0 / 2 ^ e) → message x n ≡ message y n
  both_same whole last =
      bytes_ext (message x n) (message y n) (bits_message x n) (bits_message y n)
      (length_message x n within_x ∙ sym (length_message y n within_y))
      (λ j low. byte j (omega (arith, length_message x n within_x)) (dec_lt j q))
    where
      byte : (j : ℕ) → 8 * j < n → Dec (j < q) → byte_of (message x n) j ≡ byte_of (message y n) j
      byte j low (yes before) =
          before_cut x n j (fits_x j) (omega arith) ∙ sym (get_or-take q x j 0 before) ∙ ap (λ (l : List ℕ). get_or l j 0) whole
          ∙ get_or-take q y j 0 before ∙ sym (before_cut y n j (fits_y j) (omega arith))
      byte j low (no behind) =
          let here : q ≡ j = omega arith in
          rw (← here) (last_byte x fits_x ∙ ap (λ (v : ℕ). v * 2 ^ e) (last (omega arith)) ∙ sym (last_byte y fits_y))

  pub bytes_other : equal (take q x) (take q y) ≡ false → false ≡ equal (message x n) (message y n)
  bytes_other other = sym (not_equal (message x n) (message y n) (λ same. equal_false (take q x) (take q y) other (whole_same same)))

  module _ (equal_bytes : equal (take q x) (take q y) ≡ true) where
    whole : take q x ≡ take q y
    whole = equal_true (take q x) (take q y) equal_bytes

    pub bytes_all : n % 8 ≡ 0 → true ≡ equal (message x n) (message y n)
    bytes_all none = sym (same_equal (message x n) (message y n) (both_same whole (λ more. absurd (omega arith))))

    pub last_decides : eqb (get_or x q 0 / 2 ^ e) (get_or y q 0 / 2 ^ e) ≡ equal (message x n) (message y n)
    last_decides = by (ℕ_discrete (get_or x q 0 / 2 ^ e) (get_or y q 0 / 2 ^ e))
      where
        by : Dec (get_or x q 0 / 2 ^ e ≡ get_or y q 0 / 2 ^ e)
            → eqb (get_or x q 0 / 2 ^ e) (get_or y q 0 / 2 ^ e) ≡ equal (message x n) (message y n)
        by (yes same) = eq-eqb _ _ same ∙ sym (same_equal (message x n) (message y n) (both_same whole (λ _. same)))
        by (no other) = ne_eqb _ _ other ∙ sym (not_equal (message x n) (message y n) (λ same. other (last_same same)))
