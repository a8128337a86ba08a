-- The length of a digest.
use mathlib.Core.Bool.{true}
use mathlib.Core.Path.{◌≡◌, refl}
use Prim.Native.Nat.{ℕ, ◌*◌, ◌%◌, ◌≤◌}
use native.Mathlib.Omega.{arith}
use lib.Dec.{lit≤}
use lib.ListN.{length, length-take}
use mathlib.Core.List.{List}
use Rattle.simd.specs.Basic.{family_of, is_width, state_words, bytes_of, digest_bytes}
use Rattle.simd.specs.Message.{message_blocks, length_block}
use Rattle.simd.specs.Constants.{start}
use Rattle.simd.specs.Hash.{chain, final, final_state, digest}
use Rattle.laws.proofs.LittleEndian.{length_bytes_of}
use Rattle.laws.proofs.Chain.{length_compression}
use Rattle.hash.specs.Open.{family, used, reached, pending, legal, final_of, digest_of}
use Rattle.hash.specs.declared.Hash.{Hash}
use Rattle.hash.proofs.Holding.{legal_width}
use Rattle.hash.proofs.Feeding.{at_widths}

-- A digest is whole words of the state.
pub digest_room : (width : ℕ) → is_width width ≡ true → digest_bytes width ≤ 4 * state_words (family_of width)
digest_room = at_widths (λ (w : ℕ). digest_bytes w ≤ 4 * state_words (family_of w)) (lit≤ tt) (lit≤ tt) (lit≤ tt) (lit≤ tt)

-- It has at most 64 bytes, and the 8 that a quote is of.
pub digest_bounds : (width : ℕ) → is_width width ≡ true → (digest_bytes width ≤ 64) × (8 ≤ digest_bytes width)
digest_bounds =
    at_widths (λ (w : ℕ). (digest_bytes w ≤ 64) × (8 ≤ digest_bytes w))
    (lit≤ tt, lit≤ tt) (lit≤ tt, lit≤ tt) (lit≤ tt, lit≤ tt) (lit≤ tt, lit≤ tt)

pub digest_words : (width : ℕ) → is_width width ≡ true → digest_bytes width % 4 ≡ 0
digest_words = at_widths (λ (w : ℕ). digest_bytes w % 4 ≡ 0) refl refl refl refl

pub digest_length : (h : Hash) → legal h ≡ true → length (digest_of h) ≡ digest_bytes h.width
unfolding digest_of final_of bytes_of
digest_length h good =
    let f = family h in
    let words = length_compression f true (chain f (reached h) (pending h) (message_blocks f (used h))) (length_block f h.bits) in
    omega (arith, length-take (digest_bytes h.width) (bytes_of (final_of h)), length_bytes_of (final_of h), words, digest_room h.width (legal_width h good))

-- And so is that of a message.
pub length_digest : (width : ℕ) → is_width width ≡ true → (m : List ℕ) → length (digest width m) ≡ digest_bytes width
unfolding digest final_state final
length_digest width known m =
    let f = family_of width in
    let n = length m in
    let words = length_compression f true (chain f (start width) m (message_blocks f n)) (length_block f n) in
    omega (arith, length-take (digest_bytes width) (bytes_of (final_state width m)), length_bytes_of (final_state width m), words, digest_room width known)
