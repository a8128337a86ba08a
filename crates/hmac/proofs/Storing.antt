-- Laws of whole answers: what store and restore have put together is what the definitions say.
use mathlib.Core.Bool.{true, false, cond}
use mathlib.Core.List.{List, [], ◌++◌, append_assoc, append-nil}
use mathlib.Core.Path.{◌≡◌, refl, sym, ap, ◌∙◌}
use Prim.Native.Nat.{ℕ, ◌+◌, ◌*◌, ◌-◌, ◌≤◌}
use native.Mathlib.Omega.{arith}
use borrow.Author.Tests.{leb-true, le-leb}
use borrow.Rule.Slice.PartMut.{mid_of, post_of, put_mid}
use lib.Dec.{leb}
use lib.ListN.{length, take, drop, length-drop, length-append, drop_of_length-le}
use lib.Seq.{take_at, drop_at, take_all, drop-drop}
use Rattle.simd.specs.Basic.{family_of}
use Rattle.hash.specs.Open.{Opened as HashOpened, family, legal as hashLegal, written}
use Rattle.hash.specs.Form.{form_bytes, form_of, store_refusal as hashRefusal, restore_answer as restored}
use Rattle.hash.specs.declared.Hash.{Hash}
use Rattle.hash.proofs.Refusing.{passed, first_refused, first_accepted, written_refused, written_accepted}
use Rattle.hash_theorems.proofs.Held.{Long}
use Rattle.hash_theorems.proofs.Storing.{form_length}
use Rattle.hmac_parts.specs.Keyed.{keyed}
use Rattle.hmac_parts.proofs.Keyed.{IsKeyed, keyed_facts}
use Rattle.hmac.specs.Keyed.{legal, width, no_hmac, opened}
use Rattle.hmac.specs.Form.{keyed_form, store_refusal, store_answer, front, back, hmac_of, keyed_refusal, restore_answer}
use Rattle.hmac.specs.declared.Hmac.{Hmac}
use Rattle.hmac.proofs.Answers.{refused_none}

-- A hash stored with room for it.
store_written : (h : Hash) → hashLegal h ≡ true → (out left : List ℕ) → form_bytes (family h) ≤ length out
    → left ≡ written (hashRefusal h out) (form_of h) out → left ≡ form_of h ++ drop (length (form_of h)) out
unfolding hashRefusal
store_written h good out left room wrote =
    wrote ∙ written_accepted _ (form_of h) out (rw (good, le-leb (form_bytes (family h)) (length out) room))

module _ (k : Hmac) (out : List ℕ) (r half : ℕ) (size : half ≡ form_bytes (family_of (width k)))
    (same : r ≡ cond (keyed k.inner k.outer) (cond (leb (2 * half) (length out)) 0 6) 5) where
  store_refusal_lem : r ≡ store_refusal k out
  unfolding store_refusal legal
  store_refusal_lem = same ∙ ap (λ (n : ℕ). cond (keyed k.inner k.outer) (cond (leb (2 * n) (length out)) 0 6) 5) size

  pub store_refused : (r ≡ 0 → ⊥) → (record { hmac = k; refusal = r } ≡ store_answer k out) × (out ≡ written (store_refusal k out) (keyed_form k) out)
  unfolding store_answer
  store_refused some = (
    (λ i. record { hmac = k; refusal = store_refusal_lem i }),
    sym (written_refused (store_refusal k out) (keyed_form k) out (λ e. some (store_refusal_lem ∙ e))),
  )

  pub store_facts : r ≡ 0 → IsKeyed k.inner k.outer × (2 * half ≤ length out)
  store_facts none =
      let one = passed (keyed k.inner k.outer) _ 4 (sym same ∙ none) in (
        keyed_facts k.inner k.outer one.0,
        leb-true (2 * half) (length out) (passed (leb (2 * half) (length out)) 0 5 one.1).0,
      )

  -- The inner form over the output, and the outer form over what is behind it.
  module _ (none : r ≡ 0) (inner_long : Long k.inner) (outer_long : Long k.outer) where
    abbrev a : List ℕ
    a = form_of k.inner

    abbrev b : List ℕ
    b = form_of k.outer

    a_size : length a ≡ half
    a_size = form_length k.inner inner_long ∙ sym size

    b_size : length b ≡ half
    b_size = form_length k.outer outer_long ∙ ap (λ (w : ℕ). form_bytes (family_of w)) (store_facts none).0.one_width ∙ sym size

    first_out : {one : List ℕ} → one ≡ written (hashRefusal k.inner out) a out → one ≡ a ++ drop half out
    first_out wrote =
        store_written k.inner (store_facts none).0.inner_legal out _ (omega (arith, (store_facts none).1, size)) wrote
        ∙ ap (λ (n : ℕ). a ++ drop n out) a_size

    pub inner_fits : hashRefusal k.inner out ≡ 0
    unfolding hashRefusal
    inner_fits =
        let room : form_bytes (family k.inner) ≤ length out = omega (arith, (store_facts none).1, size) in
        rw ((store_facts none).0.inner_legal, le-leb (form_bytes (family k.inner)) (length out) room)

    pub stored_length : {one : List ℕ} → one ≡ written (hashRefusal k.inner out) a out → length one ≡ length out
    stored_length {one} wrote =
        ap length (first_out wrote) ∙ omega (arith, length-append a (drop half out), length-drop half out, a_size, (store_facts none).1)

    rest : {one : List ℕ} → one ≡ written (hashRefusal k.inner out) a out → mid_of half (length one - half) one ≡ drop half out
    rest {one} wrote =
        take_all (length one - half) (drop half one) (omega (arith, length-drop half one))
        ∙ ap (drop half) (first_out wrote) ∙ drop_at a (drop half out) half a_size

    room_behind : {one : List ℕ} → one ≡ written (hashRefusal k.inner out) a out
        → form_bytes (family k.outer) ≤ length (mid_of half (length one - half) one)
    room_behind wrote =
        omega (arith, ap length (rest wrote), length-drop half out, form_length k.outer outer_long, b_size, (store_facts none).1)

    pub outer_fits : {one : List ℕ} → one ≡ written (hashRefusal k.inner out) a out → hashRefusal k.outer (mid_of half (length one - half) one) ≡ 0
    unfolding hashRefusal
    outer_fits {one} wrote =
        rw ((store_facts none).0.outer_legal, le-leb (form_bytes (family k.outer)) (length (mid_of half (length one - half) one)) (room_behind wrote))

    pub store_answered : {one two : List ℕ} → one ≡ written (hashRefusal k.inner out) a out
        → two ≡ written (hashRefusal k.outer (mid_of half (length one - half) one)) b (mid_of half (length one - half) one)
        → (record { hmac = k; refusal = 0 } ≡ store_answer k out)
        × (put_mid half (length one - half) one two ≡ written (store_refusal k out) (keyed_form k) out)
    unfolding store_answer keyed_form written
    store_answered {one} {two} Wrote-one wrote-two =
        let accepted = sym store_refusal_lem ∙ none in
        let left = first_out Wrote-one in
        let mid = rest Wrote-one in
        let past : post_of half (length one - half) one ≡ [] =
        drop_of_length-le (drop half one) {i = length one - half} (omega (arith, length-drop half one)) in
        let behind : two ≡ b ++ drop half (drop half out) =
        store_written k.outer (store_facts none).0.outer_legal _ two (room_behind Wrote-one) wrote-two ∙ (λ i. b ++ drop (b_size i) (mid i)) in
        let start : take half one ≡ a = ap (take half) left ∙ take_at a (drop half out) half a_size in
        let whole : length (a ++ b) ≡ half + half = length-append a b ∙ (λ i. a_size i + b_size i) in
        rw accepted (
          refl,
          (λ i. start i ++ (two ++ past i)) ∙ ap (λ (l : List ℕ). a ++ l) (append-nil two ∙ behind)
              ∙ sym (append_assoc a b (drop half (drop half out)))
              ∙ (λ i. a ++ b ++ drop-drop half half out i) ∙ ap (λ (n : ℕ). a ++ b ++ drop n out) (sym whole),
        )

-- Restored.
module _ (form : List ℕ) where
  module _ {a : HashOpened} (one : a ≡ restored (front form)) where
    pub front_refused : (a.refusal ≡ 0 → ⊥) → record { hmac = no_hmac; refusal = a.refusal } ≡ restore_answer form
    unfolding restore_answer keyed_refusal
    front_refused some =
        let e = ap (λ (a : HashOpened). a.refusal) one in
        let r = first_refused (restored (front form)).refusal _ (λ z. some (e ∙ z)) in
        refused_none a.refusal (hmac_of form) some ∙ ap (λ (r : ℕ). opened r (hmac_of form)) (e ∙ sym r)

    module _ (first_none : a.refusal ≡ 0) {b : HashOpened} (two : b ≡ restored (back form)) where
      one_none : (restored (front form)).refusal ≡ 0
      one_none = sym (ap (λ (a : HashOpened). a.refusal) one) ∙ first_none

      pub back_refused : (b.refusal ≡ 0 → ⊥) → record { hmac = no_hmac; refusal = b.refusal } ≡ restore_answer form
      unfolding restore_answer keyed_refusal
      back_refused some =
          let e = ap (λ (a : HashOpened). a.refusal) two in
          let r = first_accepted (restored (front form)).refusal _ one_none
          ∙ first_refused (restored (back form)).refusal _ (λ z. some (e ∙ z)) in
          refused_none b.refusal (hmac_of form) some ∙ ap (λ (r : ℕ). opened r (hmac_of form)) (e ∙ sym r)

      module _ (second_none : b.refusal ≡ 0) where
        last : (t : _) → keyed a.hash b.hash ≡ t → keyed_refusal form ≡ cond t 0 5
        unfolding keyed_refusal legal hmac_of
        last t e =
            first_accepted (restored (front form)).refusal _ one_none
            ∙ first_accepted (restored (back form)).refusal _ (sym (ap (λ (a : HashOpened). a.refusal) two) ∙ second_none)
            ∙ ap (λ t. cond t 0 5) (sym (λ i. keyed (one i).hash (two i).hash) ∙ e)

        pub not_keyed : keyed a.hash b.hash ≡ false → record { hmac = no_hmac; refusal = 5 } ≡ restore_answer form
        unfolding restore_answer opened
        not_keyed bad = sym (ap (λ (r : ℕ). opened r (hmac_of form)) (last false bad))

        pub both_restored : keyed a.hash b.hash ≡ true → record { hmac = record { inner = a.hash; outer = b.hash }; refusal = 0 } ≡ restore_answer form
        unfolding restore_answer opened hmac_of
        both_restored good =
            (λ i. record { hmac = record { inner = (one i).hash; outer = (two i).hash }; refusal = 0 })
            ∙ sym (ap (λ (r : ℕ). opened r (hmac_of form)) (last true good))
