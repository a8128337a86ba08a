-- Old keyed forms through the calls for C: simd_restore of each half makes the new one, and simd_hmac_feed refuses an old one, whose new form does not
-- fit in its place.
use mathlib.Core.Bool.{true}
use mathlib.Core.List.{List, ◌++◌, append-nil}
use mathlib.Core.Path.{◌≡◌, sym, ap, ◌∙◌}
use Prim.Native.Nat.{ℕ, ◌*◌, ◌<◌}
use native.Mathlib.Omega.{arith}
use borrow.Author.Tests.{lt-leb}
use lib.ListN.{length, get_or, drop}
use lib.Seq.{drop-length}
use Rattle.simd.specs.Basic.{family_of}
use Rattle.simd.specs.Message.{message}
use Rattle.hash.specs.Open.{first, advanced, holding, piece_refusal, written}
use Rattle.hash.specs.Form.{form_bytes, old_form_bytes, form_family, form_of, current, restore_answer as restored}
use Rattle.hash.proofs.Feeding.{bits_message}
use Rattle.hash.proofs.Refusing.{passed, accepted}
use Rattle.hash_theorems.proofs.Held.{long}
use Rattle.hash_theorems.proofs.Theorems.{restored_width}
use Rattle.hmac.specs.Keyed.{Opened, legal, width, feed_refusal, feed_answer}
use Rattle.hmac.specs.Form.{keyed_form, front, back, current_keyed, hmac_of, store_refusal, store_answer, restore_answer}
use Rattle.hmac.specs.declared.Hmac.{Hmac}
use Rattle.hmac_theorems.proofs.Tags.{further, further_legal, fed_once}
use Rattle.hmac_theorems.proofs.Forms.{Values, front_fits, back_fits, refusals, restored_is, restored_stored}
use Rattle.hmac_theorems.proofs.Ignored.{fed_refusal}
use Rattle.simd_c_forms.specs.Calls.{restore_call}
use Rattle.simd_c_theorems.proofs.Restoring.{restore_accepted, restore_bytes}
use Rattle.simd_c_hmac.specs.Calls.{fed_from, feed_call}

-- A keyed form that is accepted, and its keyed hash.
module _ (form : List ℕ) (fits : (i : ℕ) → get_or form i 0 < 256) (none : (restore_answer form).refusal ≡ 0) where
  abbrev k : Hmac
  k = (restore_answer form).hmac

  -- simd_restore takes each of its halves, and what it writes of them to two buffers of their size, one behind the other, is its form of today.
  module _ (one two : List ℕ) (room_one : length one ≡ form_bytes (form_family (front form)))
      (room_two : length two ≡ form_bytes (form_family (back form))) where
    abbrev restored_to : List ℕ → List ℕ → List ℕ
    restored_to half out = written (restore_call half out) (form_of (restored half).hash) out

    pub halves_accepted : (restore_call (front form) one ≡ 0) × (restore_call (back form) two ≡ 0)
    halves_accepted = (
      restore_accepted (front form) (front_fits form fits none) (refusals form fits none).0 one (omega (arith, room_one)),
      restore_accepted (back form) (back_fits form fits none) (refusals form fits none).1.0 two (omega (arith, room_two)),
    )

    whole : (half out : List ℕ) → ((i : ℕ) → get_or half i 0 < 256) → (restored half).refusal ≡ 0 → length out ≡ form_bytes (form_family half)
        → restored_to half out ≡ current half
    whole half out bytes accepted room =
        restore_bytes half bytes accepted out (omega (arith, room))
        ∙ ap (λ (n : ℕ). current half ++ drop n out) (sym room)
        ∙ ap (λ (l : List ℕ). current half ++ l) (drop-length out)
        ∙ append-nil (current half)

    pub halves_restored : restored_to (front form) one ++ restored_to (back form) two ≡ keyed_form k
    unfolding current_keyed
    halves_restored =
        let first = whole (front form) one (front_fits form fits none) (refusals form fits none).0 room_one in
        let second = whole (back form) two (back_fits form fits none) (refusals form fits none).1.0 room_two in
        (λ i. first i ++ second i) ∙ sym (restored_stored form fits none).0

  good : legal k ≡ true
  good = (restored_stored form fits none).1

  values : Values k
  values = (restored_stored form fits none).2

  own_size : form_bytes (family_of (width k)) ≡ form_bytes (form_family (front form))
  unfolding hmac_of
  own_size =
      ap (λ (o : Opened). form_bytes (family_of (width o.hmac))) (restored_is form fits none)
      ∙ ap (λ (w : ℕ). form_bytes (family_of w)) (restored_width (front form) (refusals form fits none).0)

  -- In the place of an old form there is no room for the form after a piece: one that breaks no rule is refused with 6.
  no_room : length form ≡ 2 * old_form_bytes (form_family (front form)) → (m : List ℕ) → length form < 2 * form_bytes (family_of (width (further k m)))
  unfolding advanced holding
  no_room old m = omega (arith, own_size, old)

  pub old_not_fed : length form ≡ 2 * old_form_bytes (form_family (front form)) → (piece : List ℕ) (bits : ℕ) → (fed_from form piece bits).refusal ≡ 0
      → feed_call form piece bits ≡ 6
  unfolding feed_call fed_from feed_answer feed_refusal first store_answer store_refusal
  old_not_fed old piece bits not-refused =
      let m = message piece bits in
      let all = sym (fed_refusal (feed_refusal k piece bits) k m) ∙ not-refused in
      let piece_none = (passed (legal k) (piece_refusal k.inner.bits piece bits) 4 all).1 in
      let piece_facts = accepted k.inner.bits piece bits piece_none in
      let next = fed_once k good piece bits piece_facts.within piece_facts.short in
      let next_legal = further_legal k (long values.inner.sized) m (bits_message piece bits) good in
      rw (none, next, next_legal, lt-leb (2 * form_bytes (family_of (width (further k m)))) (length form) (no_room old m))
