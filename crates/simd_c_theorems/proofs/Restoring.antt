-- Forms of either size through the calls for C: what simd_restore writes of one, and that simd_feed refuses an old one, whose new form does not fit
-- in its place.
use mathlib.Core.Bool.{true}
use mathlib.Core.List.{List, ◌++◌}
use mathlib.Core.Path.{◌≡◌, sym, ap, ◌∙◌}
use Prim.Native.Nat.{ℕ, ◌<◌, ◌≤◌}
use native.Mathlib.Omega.{arith}
use borrow.Author.Tests.{le-leb, lt-leb}
use lib.ListN.{length, get_or, drop}
use Rattle.simd.specs.Basic.{family_of}
use Rattle.simd.specs.Message.{message}
use Rattle.hash.specs.Open.{family, legal, holding, advanced, feed_refusal, feed_answer, written, first}
use Rattle.hash.specs.Form.{form_bytes, old_form_bytes, form_family, form_of, current, store_refusal, store_answer, restore_answer}
use Rattle.hash.specs.declared.Hash.{Hash}
use Rattle.hash.proofs.Holding.{Value}
use Rattle.hash.proofs.Feeding.{fed_whole, bits_message}
use Rattle.hash.proofs.Ignored.{fed_refusal}
use Rattle.hash.proofs.Answers.{feed_facts}
use Rattle.hash_theorems.proofs.Held.{long}
use Rattle.hash_theorems.proofs.Advanced.{advanced_legal}
use Rattle.hash_theorems.proofs.Storing.{form_length}
use Rattle.hash_theorems.proofs.Theorems.{restored_stored, restored_width}
use Rattle.simd_c_forms.specs.Calls.{fed_from, feed_call, restore_call}

-- A form that is accepted, and its hash.
module _ (form : List ℕ) (fits : (i : ℕ) → get_or form i 0 < 256) (none : (restore_answer form).refusal ≡ 0) where
  abbrev h : Hash
  h = (restore_answer form).hash

  good : legal h ≡ true
  good = (restored_stored form fits none).1

  value : Value h
  value = (restored_stored form fits none).2

  own_size : form_bytes (family h) ≡ form_bytes (form_family form)
  own_size = ap (λ (w : ℕ). form_bytes (family_of w)) (restored_width form none)

  -- Where there is room, the form of today that it stands for is written, and nothing behind it.
  module _ (out : List ℕ) (room : form_bytes (form_family form) ≤ length out) where
    pub restore_accepted : restore_call form out ≡ 0
    unfolding restore_call first store_answer store_refusal
    restore_accepted = rw (none, good, le-leb (form_bytes (family h)) (length out) (omega (arith, own_size)))

    pub restore_bytes : written (restore_call form out) (form_of h) out ≡ current form ++ drop (form_bytes (form_family form)) out
    unfolding written
    restore_bytes =
        let bytes = (restored_stored form fits none).0 in
        let size = form_length h (long value.sized) ∙ own_size in
        ap (λ (r : ℕ). written r (form_of h) out) restore_accepted ∙ λ i. bytes i ++ drop (size i) out

  -- In the place of an old form there is no room for the form after a piece: one that breaks no rule is refused with 6.
  no_room : length form ≡ old_form_bytes (form_family form) → (m : List ℕ) → length form < form_bytes (family (advanced h m))
  unfolding advanced holding
  no_room old m = omega (arith, own_size, old)

  pub old_not_fed : length form ≡ old_form_bytes (form_family form) → (piece : List ℕ) (bits : ℕ) → (fed_from form piece bits).refusal ≡ 0
      → feed_call form piece bits ≡ 6
  unfolding feed_call fed_from feed_answer first store_answer store_refusal
  old_not_fed old piece bits not-refused =
      let m = message piece bits in
      let piece_none = sym (fed_refusal (feed_refusal h piece bits) h m) ∙ not-refused in
      let piece_facts = (feed_facts h piece bits (sym piece_none)).whole in
      let next = fed_whole h piece bits good piece_facts.within piece_facts.short in
      let next_legal = advanced_legal h (long value.sized) m (bits_message piece bits) good in
      rw (none, next, next_legal, lt-leb (form_bytes (family (advanced h m))) (length form) (no_room old m))
