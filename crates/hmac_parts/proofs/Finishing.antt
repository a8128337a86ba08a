-- The tag of two hashes: the inner one's digest is less than a block, so that the outer one, which holds exactly a block, compresses nothing when it
-- is fed and two blocks when it is taken.
use mathlib.Core.Bool.{true}
use mathlib.Core.List.{List}
use mathlib.Core.Path.{◌≡◌, sym, ap, ◌∙◌}
use Prim.Native.Nat.{ℕ, ◌+◌, ◌*◌, ◌-◌, ◌/◌, ◌%◌, ◌<◌, ◌≤◌}
use native.Mathlib.Omega.{arith}
use borrow.Author.Tests.{ne_eqb}
use lib.Dec.{lit<}
use lib.ListN.{length, take, replicate}
use lib.Seq.{take_at}
use Rattle.simd.specs.Basic.{Family, small, large, family_of, is_width, block_bits, digest_bytes}
use Rattle.simd.specs.Message.{bits_of, message_blocks}
use Rattle.simd.specs.Hash.{compressions}
use Rattle.laws.proofs.Bits.{bits_bits_of, length_bits_of}
use Rattle.hash.specs.Open.{Fed, Taken, limit, family, used, legal, advanced, holding, full_blocks, feed_answer, digest_of, take_refusal, take_answer, written}
use Rattle.hash.specs.declared.Hash.{Hash}
use Rattle.hash.proofs.Holding.{legal_width}
use Rattle.hash.proofs.Feeding.{at_widths, fed_whole}
use Rattle.hash.proofs.Digests.{digest_length}
use Rattle.hash.proofs.Refusing.{written_accepted}
use Rattle.hash_theorems.proofs.Held.{Long}
use Rattle.hash_theorems.proofs.Advanced.{advanced_legal}
use Rattle.hash_theorems.proofs.Theorems.{take_accepted, take_whole, take_blocks}
use Rattle.hmac_key.proofs.Bytes.{whole_bytes, message_bytes}
use Rattle.hmac_parts.specs.Keyed.{tag_from}
use Rattle.hmac_parts.proofs.Keyed.{IsKeyed}

-- A digest is some bits, and less than a block.
pub record Short (width : ℕ) : Type 0 where
  pub some : 0 < digest_bytes width
  pub less : 8 * digest_bytes width < block_bits (family_of width)
  pub room : digest_bytes width ≤ 64

pub short : (width : ℕ) → is_width width ≡ true → Short width
short =
    at_widths Short (record { some = lit< tt; less = lit< tt; room = omega arith }) (record { some = lit< tt; less = lit< tt; room = omega arith })
    (record { some = lit< tt; less = lit< tt; room = omega arith }) (record { some = lit< tt; less = lit< tt; room = omega arith })

-- The bits of a block and less than a block more.
within_block : (f : Family) (n : ℕ) → n < block_bits f → (block_bits f % block_bits f + n) / block_bits f ≡ 0
within_block small n less = omega arith
within_block large n less = omega arith

left_over : (f : Family) (n : ℕ) → n < block_bits f → (block_bits f + n) % block_bits f ≡ n
left_over small n less = omega arith
left_over large n less = omega arith

block_short : (f : Family) → block_bits f ≤ 1024
block_short small = omega arith
block_short large = omega arith

pub one_or_two : (f : Family) (n : ℕ) → compressions f (n % block_bits f) ≤ 2
unfolding compressions message_blocks
one_or_two small n = omega arith
one_or_two large n = omega arith

module _ (inner outer : Hash) (k : IsKeyed inner outer) where
  abbrev w : ℕ
  w = inner.width

  abbrev m : List ℕ
  m = bits_of (digest_of inner)

  known : is_width w ≡ true
  known = legal_width inner k.inner_legal

  pub inner_size : length (digest_of inner) ≡ digest_bytes w
  inner_size = digest_length inner k.inner_legal

  bits : length m ≡ 8 * digest_bytes w
  bits = length_bits_of (digest_of inner) ∙ ap (λ (n : ℕ). 8 * n) inner_size

  families : family outer ≡ family inner
  families = ap family_of k.one_width

  -- The inner hash is taken into 64 bytes.
  pub digest_written : {t : Taken} {left : List ℕ} → t ≡ take_answer inner (replicate 64 0)
      → left ≡ written (take_refusal inner (replicate 64 0)) (digest_of inner) (replicate 64 0) → (l : ℕ) → l ≡ digest_bytes w
      → (t.refusal ≡ 0) × (t.blocks ≡ compressions (family inner) (used inner)) × (take l left ≡ digest_of inner)
  digest_written {t} {left} answered wrote l size =
      let room = (short w known).room in
      let none = take_accepted inner (replicate 64 0) k.inner_legal room in
      let all = answered ∙ take_whole inner (replicate 64 0) k.inner_legal room in (
        ap (λ (t : Taken). t.refusal) all,
        ap (λ (t : Taken). t.blocks) all,
        ap (take l) (wrote ∙ written_accepted _ (digest_of inner) (replicate 64 0) none)
            ∙ take_at (digest_of inner) _ l (inner_size ∙ sym size),
      )

  -- The outer hash is fed the digest.
  full : full_blocks outer (length m) ≡ 0
  unfolding full_blocks
  full = rw (bits, families, k.exact) (within_block (family inner) (8 * digest_bytes w) (short w known).less)

  pub digest_fed : {a : Fed} {piece : List ℕ} (l : ℕ) → l ≡ digest_bytes w → piece ≡ digest_of inner → a ≡ feed_answer outer piece (8 * l)
      → a ≡ record { hash = advanced outer m; blocks = 0; refusal = 0 }
  digest_fed {a} {piece} l size same answered =
      let d = digest_of inner in
      let count : 8 * l ≡ 8 * length d = omega (arith, size, inner_size) in
      let total : outer.bits + 8 * length d ≤ limit = omega (arith, k.exact, block_short (family inner), inner_size, (short w known).room) in
      let none = full in
      let message = message_bytes d in
      answered ∙ (λ i. feed_answer outer (same i) (count i)) ∙ fed_whole outer d (8 * length d) k.outer_legal (whole_bytes d) total
      ∙ (λ i. record { hash = advanced outer (message i); blocks = full_blocks outer (length (message i)); refusal = 0 })
      ∙ λ i. record { hash = advanced outer m; blocks = none i; refusal = 0 }

  -- And taken.
  module _ (long : Long outer) where
    last_legal : legal (advanced outer m) ≡ true
    last_legal = advanced_legal outer long m (bits_bits_of (digest_of inner)) k.outer_legal

    last_used : used (advanced outer m) ≡ 8 * digest_bytes w
    unfolding advanced holding
    last_used = rw (bits, families, k.exact) (left_over (family inner) (8 * digest_bytes w) (short w known).less)

    last_width : (advanced outer m).width ≡ w
    unfolding advanced holding
    last_width = k.one_width

    pub tag_size : length (tag_from inner outer) ≡ digest_bytes w
    unfolding tag_from
    tag_size = digest_length (advanced outer m) last_legal ∙ ap digest_bytes last_width

    pub tag_written : {t : Taken} {h : Hash} (out : List ℕ) {left : List ℕ} → h ≡ advanced outer m → digest_bytes w ≤ length out → t ≡ take_answer h out
        → left ≡ written (take_refusal h out) (digest_of h) out
        → (t.refusal ≡ 0) × (t.blocks ≡ 2) × (left ≡ written 0 (tag_from inner outer) out)
    unfolding tag_from
    tag_written {t} {h} out {left} same room answered wrote =
        let enough : digest_bytes (advanced outer m).width ≤ length out = rw last_width room in
        let two = ne_eqb (used (advanced outer m)) 0 (λ e. omega (arith, e, last_used, (short w known).some)) in
        let all = answered ∙ ap (λ (h : Hash). take_answer h out) same ∙ take_blocks (advanced outer m) out last_legal enough in (
          ap (λ (t : Taken). t.refusal) all,
          ap (λ (t : Taken). t.blocks) all ∙ rw two,
          wrote ∙ (λ i. written (take_refusal (same i) out) (digest_of (same i)) out)
              ∙ ap (λ (r : ℕ). written r (digest_of (advanced outer m)) out) (take_accepted (advanced outer m) out last_legal enough),
        )

    pub tag_front : {left : List ℕ} (l : ℕ) → l ≡ digest_bytes w → left ≡ written 0 (tag_from inner outer) (replicate 64 0)
        → take l left ≡ tag_from inner outer
    unfolding written
    tag_front {left} l size wrote = ap (take l) wrote ∙ take_at (tag_from inner outer) _ l (tag_size ∙ sym size)
