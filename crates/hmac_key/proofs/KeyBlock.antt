-- The key's refusals, and K0 in 128 bytes: the key or its digest, with zeros behind.
use mathlib.Core.Bool.{true, false}
use mathlib.Core.List.{List, ◌++◌}
use mathlib.Core.Path.{◌≡◌, sym, ap, ◌∙◌}
use Prim.Native.Nat.{ℕ, ◌+◌, ◌*◌, ◌-◌, ◌<◌, ◌≤◌}
use native.Mathlib.Nat.{zero-add}
use native.Mathlib.Omega.{arith}
use borrow.Author.Tests.{le-leb, lt-leb}
use lib.Bits.{bit_xor}
use lib.Dec.{lit≤}
use lib.ListN.{length, get_or, take, drop, length-take, replicate, length-drop, length-append, length-replicate, get_or-replicate}
use lib.Seq.{get_or-drop, get_or-take, ext_get_or, take-append_seam, drop-append_seam}
use Rattle.simd.specs.Basic.{family_of, is_width, block_bytes, digest_bytes, table}
use Rattle.simd.specs.Message.{bits_of, message}
use Rattle.simd.specs.Hash.{digest}
use Rattle.laws.proofs.Table.{table_ext, length_table, get_d_table}
use Rattle.bits.specs.Zero.{padded}
use Rattle.bits.proofs.Zeros.{all_zero_lem, get_d_padded, length_padded, padded_take}
use Rattle.tail.proofs.Sizes.{bytes_within}
use Rattle.hash.specs.Open.{limit, written, first}
use Rattle.hash.proofs.Feeding.{at_widths}
use Rattle.hash.proofs.Digests.{length_digest}
use Rattle.hash.proofs.Refusing.{written_accepted}
use Rattle.digest.specs.Call.{digest_refusal}
use Rattle.hmac_key.specs.Hmac.{key_block, masked}
use Rattle.hmac_key.specs.Refusal.{key_refusal}
use Rattle.hmac_key.proofs.Bytes.{bytes_accepted, message_bytes}

module _ (width bytes : ℕ) where
  pub unknown_width : is_width width ≡ false → 1 ≡ key_refusal width bytes
  unfolding key_refusal
  unknown_width unknown = rw unknown

  pub long_key : is_width width ≡ true → limit < 8 * bytes → 4 ≡ key_refusal width bytes
  unfolding key_refusal
  long_key known long = rw (known, lt-leb (8 * bytes) limit long)

  pub key_accepted : is_width width ≡ true → 8 * bytes ≤ limit → 0 ≡ key_refusal width bytes
  unfolding key_refusal
  key_accepted known short = rw (known, le-leb (8 * bytes) limit short)

pub key_block_length : (width : ℕ) (key : List ℕ) → length (key_block width key) ≡ block_bytes (family_of width)
unfolding key_block
key_block_length width key = length_padded (block_bytes (family_of width)) _

-- Zeros behind zeros, and a list written over zeros.
padded_padded : (n k : ℕ) (l : List ℕ) → length l ≤ k → padded n (padded k l) ≡ padded n l
unfolding padded
padded_padded n k l within = table_ext n (λ i. get_or (padded k l) i 0) (λ i. get_or l i 0) (λ i _. get_d_padded k l i within)

over_zeros : (n : ℕ) (l : List ℕ) → length l ≤ n → l ++ drop (length l) (replicate n 0) ≡ padded n l
over_zeros n l within =
    let zeros : List ℕ = drop (length l) (replicate n 0) in
    let rest : length zeros ≡ n - length l = length-drop (length l) (replicate n 0) ∙ ap (λ m. m - length l) (length-replicate n 0) in
    let clean = all_zero_lem zeros
    (λ i below. get_or-drop (length l) (replicate n 0) i 0 ∙ get_or-replicate n (length l + i) 0 0 (omega (arith, rest))) in
    sym (padded_take n (length l) (l ++ zeros) (omega (arith, length-append l zeros, rest)) (rw (drop-append_seam l zeros) clean))
    ∙ ap (padded n) (take-append_seam l zeros)

-- A key of at most a block is K0's front.
pub short_key : (width : ℕ) (key block : List ℕ) → length key ≤ block_bytes (family_of width) → block ≡ table 128 (λ j. get_or key (0 + j) 0)
    → block ≡ padded 128 (key_block width key)
unfolding key_block padded
short_key width key block short filled =
    filled ∙ table_ext 128 _ _ (λ j _. ap (λ k. get_or key k 0) (zero-add j))
    ∙ sym (padded_padded 128 (block_bytes (family_of width)) key short)
    ∙ rw (le-leb (length key) (block_bytes (family_of width)) short)

-- Of a longer key it is the digest.
digest_within : (width : ℕ) → is_width width ≡ true → digest_bytes width ≤ block_bytes (family_of width)
digest_within = at_widths (λ (w : ℕ). digest_bytes w ≤ block_bytes (family_of w)) (lit≤ tt) (lit≤ tt) (lit≤ tt) (lit≤ tt)

module _ (width : ℕ) (known : is_width width ≡ true) (key : List ℕ) (short : 8 * length key ≤ limit) where
  pub accepted : digest_refusal width key (8 * length key) 128 ≡ 0
  unfolding digest_refusal first
  accepted =
      let room : digest_bytes width ≤ 128 = omega (arith, digest_within width known, bytes_within (family_of width)) in
      rw (known, bytes_accepted key 0 (omega (arith, short)), le-leb (digest_bytes width) 128 room)

  pub hashed_key : (block : List ℕ) → block_bytes (family_of width) < length key
      → block ≡ written (digest_refusal width key (8 * length key) 128) (digest width (message key (8 * length key))) (replicate 128 0)
      → block ≡ padded 128 (key_block width key)
  unfolding key_block
  hashed_key block long wrote =
      let h = digest width (bits_of key) in
      let size = length_digest width known (bits_of key) in
      let within = digest_within width known in
      wrote
      ∙ written_accepted _ _ (replicate 128 0) accepted
      ∙ ap (λ (m : List ℕ). digest width m ++ drop (length (digest width m)) (replicate 128 0)) (message_bytes key)
      ∙ over_zeros 128 h (omega (arith, size, within, bytes_within (family_of width)))
      ∙ sym (padded_padded 128 (block_bytes (family_of width)) h (omega (arith, size, within)))
      ∙ rw (lt-leb (length key) (block_bytes (family_of width)) long)

-- The front of 128 bytes, a block long, masked.
pub masked_front : (width : ℕ) (key : List ℕ) (pad size : ℕ) → size ≡ block_bytes (family_of width)
    → take size (masked pad (padded 128 (key_block width key))) ≡ masked pad (key_block width key)
unfolding masked
masked_front width key pad size e =
    let k = key_block width key in
    let n : length k ≡ size = key_block_length width key ∙ sym e in
    let long = length_padded 128 k in
    let small = bytes_within (family_of width) in
    let wide = masked pad (padded 128 k) in
    let wide_length : length wide ≡ 128 = length_table (length (padded 128 k)) _ ∙ long in
    ext_get_or 0 (take size wide) (masked pad k)
    (omega (arith, length-take size wide, wide_length, e, small, length_table (length k) (λ j. bit_xor (get_or k j 0) pad), n))
    (λ i below.
    let low : i < size = omega (arith, below, length-take size wide) in
    get_or-take size wide i 0 (omega arith)
    ∙ get_d_table (length (padded 128 k)) _ i 0 (omega (arith, long, low, e, small))
    ∙ ap (λ (x : ℕ). bit_xor x pad) (get_d_padded 128 k i (omega (arith, n, e, small)))
    ∙ sym (get_d_table (length k) (λ j. bit_xor (get_or k j 0) pad) i 0 (omega (arith, n, low))))
