-- The tag depends on key and bits alone: what stands past the count of a message is ignored.
use mathlib.Core.Bool.{cond}
use mathlib.Core.List.{List}
use mathlib.Core.Path.{◌≡◌}
use Prim.Native.Nat.{ℕ, ◌*◌}
use native.Mathlib.Omega.{arith}
use lib.Dec.{leb}
use lib.ListN.{length}
use Rattle.simd.specs.Basic.{family_of, is_width, block_bits, digest_bytes}
use Rattle.simd.specs.Message.{message}
use Rattle.hash.specs.Open.{limit, first, piece_refusal, written}
use Rattle.hash.proofs.Ignored.{Agree, same_refusal, neither, neither_first, piece_not_3}
use Rattle.hmac_key.specs.Hmac.{tag}
use Rattle.hmac_key.specs.Refusal.{key_refusal}
use Rattle.hmac_tag.specs.Call.{tag_refusal}

module _ (width : ℕ) (key : List ℕ) {count : ℕ} {p q : List ℕ} (a : Agree count p q) where
  pub same_answer : (room : ℕ) → tag_refusal width key p count room ≡ tag_refusal width key q count room
  unfolding tag_refusal
  same_answer room =
      λ i. first (key_refusal width (length key)) (first (same_refusal (block_bits (family_of width)) a i) (cond (leb (digest_bytes width) room) 0 6))

  pub same_tag : (out : List ℕ) (room : ℕ)
      → written (tag_refusal width key p count room) (tag width key (message p count)) out
      ≡ written (tag_refusal width key q count room) (tag width key (message q count)) out
  same_tag out room = λ i. written (same_answer room i) (tag width key (a.bits i)) out

pub tag_not_3 : (width : ℕ) (key bytes : List ℕ) (count room : ℕ) → tag_refusal width key bytes count room ≡ 3 → ⊥
unfolding tag_refusal key_refusal
tag_not_3 width key bytes count room =
    neither_first (key_refusal width (length key)) _
    (neither (is_width width) (neither (leb (8 * length key) limit) (λ (e : 0 ≡ 3). omega arith) (λ (e : 4 ≡ 3). omega arith)) (λ (e : 1 ≡ 3). omega arith))
    (neither_first (piece_refusal (block_bits (family_of width)) bytes count) _ (piece_not_3 (block_bits (family_of width)) bytes count)
    (neither (leb (digest_bytes width) room) (λ e. omega arith) (λ e. omega arith)))
