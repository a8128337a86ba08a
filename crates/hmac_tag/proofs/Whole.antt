-- Opened with a key, fed the whole message and taken: the refusals in turn, and the tag.
use mathlib.Core.Bool.{true, cond}
use mathlib.Core.List.{List}
use mathlib.Core.Path.{◌≡◌, refl, sym, ap, ◌∙◌}
use Prim.Native.Nat.{ℕ, zero, suc, ◌*◌, ◌≤◌}
use borrow.Author.Tests.{leb-true}
use lib.Dec.{leb}
use lib.ListN.{length}
use Rattle.simd.specs.Basic.{family_of, is_width, block_bits, digest_bytes}
use Rattle.simd.specs.Message.{message}
use Rattle.laws.proofs.Bits.{Bits}
use Rattle.hash.specs.Open.{limit, first, piece_refusal, written}
use Rattle.hash.proofs.Feeding.{bits_message}
use Rattle.hash.proofs.Refusing.{passed, first_refused, first_accepted, written_refused}
use Rattle.hmac_key.specs.Hmac.{tag}
use Rattle.hmac_key.specs.Refusal.{key_refusal}
use Rattle.hmac.specs.Keyed.{Opened, Fed, Taken, opening, open_answer, feed_refusal, fed, feed_answer, tag_of, take_refusal, taken, take_answer}
use Rattle.hmac.specs.declared.Hmac.{Hmac}
use Rattle.hmac_theorems.proofs.Forms.{opened_refusal}
use Rattle.hmac_theorems.proofs.Ignored.{fed_refusal}
use Rattle.hmac_theorems.proofs.Tags.{further, open_known, start_bits, start_legal, after_keyed, after_tag, after_width}
use Rattle.hmac_tag.specs.Call.{tag_refusal}

fed_hmac : (r : ℕ) (k : Hmac) (m : List ℕ) → r ≡ 0 → (fed r k m).hmac ≡ further k m
unfolding fed
fed_hmac r k m none = ap (λ (r : ℕ). (fed r k m).hmac) none

taken_refusal : (r : ℕ) (k : Hmac) → (taken r k).refusal ≡ r
unfolding taken
taken_refusal zero k = refl
taken_refusal (suc r) k = refl

-- What the call answers, n, and leaves in the output.
abbrev Seals : ℕ → List ℕ → List ℕ → ℕ → List ℕ → ℕ → List ℕ → Type 0
Seals w key bytes count out n left =
    (n ≡ tag_refusal w key bytes count (length out)) × (left ≡ written (tag_refusal w key bytes count (length out)) (tag w key (message bytes count)) out)

module _ (w : ℕ) (key bytes : List ℕ) (count : ℕ) (out : List ℕ) {o : Opened} (opening_answer : o ≡ open_answer w key) where
  kept : {n : ℕ} → n ≡ tag_refusal w key bytes count (length out) → (n ≡ 0 → ⊥) → Seals w key bytes count out n out
  kept e some = (e, sym (written_refused _ _ out (λ z. some (e ∙ z))))

  key_answer : o.refusal ≡ key_refusal w (length key)
  unfolding open_answer
  key_answer = ap (λ (o : Opened). o.refusal) opening_answer ∙ opened_refusal (key_refusal w (length key)) (opening w key)

  pub key_refused : (o.refusal ≡ 0 → ⊥) → Seals w key bytes count out o.refusal out
  unfolding tag_refusal
  key_refused some = kept (key_answer ∙ sym (first_refused (key_refusal w (length key)) _ (λ z. some (key_answer ∙ z)))) some

  module _ (key_none : o.refusal ≡ 0) where
    accepted : (is_width w ≡ true) × (8 * length key ≤ limit)
    unfolding key_refusal
    accepted =
        let one = passed (is_width w) _ 0 (sym key_answer ∙ key_none) in
        (one.0, leb-true (8 * length key) limit (passed (leb (8 * length key) limit) 0 3 one.1).0)

    abbrev m : List ℕ
    m = message bytes count

    bit : Bits m
    bit = bits_message bytes count

    hmac_is : o.hmac ≡ opening w key
    hmac_is = ap (λ (o : Opened). o.hmac) (opening_answer ∙ open_known w accepted.0 key accepted.1)

    next : ℕ
    next = piece_refusal (block_bits (family_of w)) bytes count

    call_is : tag_refusal w key bytes count (length out) ≡ first next (cond (leb (digest_bytes w) (length out)) 0 6)
    unfolding tag_refusal next
    call_is = first_accepted (key_refusal w (length key)) _ (sym key_answer ∙ key_none)

    start_refusal : feed_refusal (opening w key) bytes count ≡ next
    unfolding feed_refusal next
    start_refusal = rw (start_legal w accepted.0 key accepted.1, start_bits w accepted.0 key accepted.1)

    room_only : take_refusal (further (opening w key) m) out ≡ cond (leb (digest_bytes w) (length out)) 0 6
    unfolding take_refusal
    room_only = rw (after_keyed w accepted.0 key accepted.1 m bit, after_width w accepted.0 key accepted.1 m bit)

    module _ {f : Fed} (feeding : f ≡ feed_answer o.hmac bytes count) where
      fed_is : f ≡ fed next (opening w key) m
      unfolding feed_answer
      fed_is =
          feeding ∙ ap (λ (k : Hmac). feed_answer k bytes count) hmac_is
          ∙ ap (λ (r : ℕ). fed r (opening w key) m) start_refusal

      piece_answer : f.refusal ≡ next
      piece_answer = ap (λ (f : Fed). f.refusal) fed_is ∙ fed_refusal next (opening w key) m

      pub piece_refused : (f.refusal ≡ 0 → ⊥) → Seals w key bytes count out f.refusal out
      piece_refused some = kept (piece_answer ∙ sym (first_refused next _ (λ z. some (piece_answer ∙ z))) ∙ sym call_is) some

      module _ (piece_none : f.refusal ≡ 0) where
        whole_is : f.hmac ≡ further (opening w key) m
        whole_is = ap (λ (f : Fed). f.hmac) fed_is ∙ fed_hmac next (opening w key) m (sym piece_answer ∙ piece_none)

        last_refusal : take_refusal f.hmac out ≡ tag_refusal w key bytes count (length out)
        last_refusal =
            ap (λ (k : Hmac). take_refusal k out) whole_is ∙ room_only ∙ sym (first_accepted next _ (sym piece_answer ∙ piece_none)) ∙ sym call_is

        pub tag_taken : {t : Taken} {left : List ℕ} → t ≡ take_answer f.hmac out → left ≡ written (take_refusal f.hmac out) (tag_of f.hmac) out
            → Seals w key bytes count out t.refusal left
        unfolding take_answer
        tag_taken taking wrote =
            let text = ap tag_of whole_is ∙ after_tag w accepted.0 key accepted.1 m bit in (
              ap (λ (t : Taken). t.refusal) taking ∙ taken_refusal (take_refusal f.hmac out) f.hmac ∙ last_refusal,
              wrote ∙ (λ i. written (last_refusal i) (text i) out),
            )
