-- Laws of what a hash holds: a legal hash is its width, its bit length, its state and the bits of its tail.
use mathlib.Core.Bool.{true}
use mathlib.Core.List.{List}
use mathlib.Core.Path.{◌≡◌, sym, ◌∙◌}
use Prim.Native.Nat.{ℕ, ◌%◌, ◌<◌, ◌≤◌}
use native.Mathlib.Omega.{arith}
use native.Mathlib.Decide.{dec_lt}
use lib.ListN.{length, get_or, take, length-take, get_or-eq_default}
use lib.Seq.{get_or-take, ext_get_or}
use Rattle.simd.specs.Basic.{family_of, is_width, block_bits, state_words, table}
use Rattle.simd.specs.Message.{bits_of, byte_of}
use Rattle.laws.proofs.Table.{length_table, table_of}
use Rattle.laws.proofs.Bits.{Bits, bits_of_bytes, bits_bits_of, bits_take, length_bits_of}
use Rattle.tail.proofs.Sizes.{words_within, used_within}
use Rattle.bits.proofs.Zeros.{byte_clear}
use Rattle.hash.specs.Open.{family, used, reached, pending, holding, legal}
use Rattle.hash.specs.declared.Hash.{Hash}
use Rattle.bits.proofs.Zeros.{clear_of, take_padded, padded_past, padded_take}
use Rattle.hash.proofs.Holding.{Sized, legal_state, legal_tail}

-- The lengths of its arrays: all that bits fed and the length of its form ask of a hash.
pub record Long (h : Hash) : Type 0 where
  pub words : length h.state ≡ 32
  pub bytes : length h.tail ≡ 128

pub long : {h : Hash} → Sized h → Long h
long s = record { words = s.words; bytes = s.bytes }

pub length_pending : (h : Hash) → length h.tail ≡ 128 → length (pending h) ≡ used h
unfolding pending
length_pending h long =
    omega (arith, length-take (used h) (bits_of h.tail), length_bits_of h.tail, used_within (family h) h.bits)

pub bits_pending : (h : Hash) → Bits (pending h)
unfolding pending
bits_pending h = bits_take (used h) (bits_of h.tail) (bits_bits_of h.tail)

module _ (width n : ℕ) (state tail : List ℕ)
    (words : length state ≡ state_words (family_of width))
    (left : length tail ≡ n % block_bits (family_of width)) (bit : Bits tail) where
  pub held_state : reached (holding width n state tail) ≡ state
  unfolding reached holding
  held_state = take_padded 32 (state_words (family_of width)) state words (words_within (family_of width))

  bits_of_tail : (i : ℕ) → i < 1024 → get_or (bits_of (table 128 (byte_of tail))) i 0 ≡ get_or tail i 0
  bits_of_tail i below = bits_of_bytes 128 tail bit i below

  length_bits : length (bits_of (table 128 (byte_of tail))) ≡ 1024
  length_bits = omega (arith, length_bits_of (table 128 (byte_of tail)), length_table 128 (byte_of tail))

  pub held_tail : pending (holding width n state tail) ≡ tail
  unfolding pending holding
  held_tail =
      let u = n % block_bits (family_of width) in
      let bits = bits_of (table 128 (byte_of tail)) in
      let short : u < 1024 = used_within (family_of width) n in
      let size : length (take u bits) ≡ length tail = omega (arith, length-take u bits, length_bits) in
      ext_get_or 0 (take u bits) tail size
      (λ i below. get_or-take u bits i 0 (omega arith) ∙ bits_of_tail i (omega arith))

  pub held_legal : is_width width ≡ true → legal (holding width n state tail) ≡ true
  unfolding legal holding
  held_legal known =
      let zeros = padded_past 32 (state_words (family_of width)) state (omega arith) in
      let clean = clear_of (n % block_bits (family_of width)) (table 128 (byte_of tail)) past in
      rw (known, zeros, clean)
    where
      past : (i : ℕ) → n % block_bits (family_of width) ≤ i → get_or (bits_of (table 128 (byte_of tail))) i 0 ≡ 0
      past i beyond = elim (dec_lt i 1024) [
        | yes below ↦ bits_of_tail i below ∙ get_or-eq_default tail 0 {n = i} (omega arith)
        | no over ↦ get_or-eq_default (bits_of (table 128 (byte_of tail))) 0 {n = i} (omega (arith, length_bits))
      ]

pub legal_bytes : (h : Hash) → Sized h → legal h ≡ true → h.tail ≡ table 128 (byte_of (pending h))
unfolding pending
legal_bytes h v good =
    table_of 0 128 (byte_of (pending h)) h.tail v.bytes
    (λ j _. sym (byte_clear (used h) h.tail j (legal_tail h good) (v.byte_fits j)))

-- A legal hash holds what it stands for, and nothing else.
pub holds : (h : Hash) → Sized h → legal h ≡ true → h ≡ holding h.width h.bits (reached h) (pending h)
unfolding holding reached
holds h v good =
    let state = sym (padded_take 32 (state_words (family h)) h.state v.words (legal_state h good)) in
    let tail = legal_bytes h v good in
    λ i. record { width = h.width; bits = h.bits; state = state i; tail = tail i }
