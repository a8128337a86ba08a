-- The stored form of a keyed hash: the halves of it are the forms of its two hashes, which are of one size.
use mathlib.Core.Bool.{true}
use mathlib.Core.List.{List, ◌++◌}
use mathlib.Core.Path.{◌≡◌, refl, sym, ap, ◌∙◌}
use Prim.Native.Nat.{ℕ, zero, suc, ◌+◌, ◌*◌, ◌/◌, ◌^◌, ◌<◌}
use native.Mathlib.Omega.{arith}
use lib.ListN.{length, get_or, length-take, length-drop, length-append, take-append-drop}
use lib.Seq.{take_at, drop_at, get_or-drop}
use Rattle.simd.specs.Basic.{Family, family_of}
use Rattle.laws.proofs.Bounds.{below_take}
use Rattle.hash.specs.Open.{family, first}
use Rattle.form.specs.Head.{form_width}
use Rattle.form.proofs.Current.{current_old, current_same, widened_size, old_sizes}
use Rattle.hash.specs.Form.{form_bytes, old_form_bytes, form_family, form_of, old_form_of, widened, restore_answer as restored}
use Rattle.hash.proofs.Holding.{Value}
use Rattle.hash.proofs.Refusing.{passed, both_passed}
use Rattle.hash_theorems.proofs.Held.{long}
use Rattle.hash_theorems.proofs.Storing.{form_length}
use Rattle.hash_theorems.proofs.OldForms.{old_form_bytes_lem}
use Rattle.hash_theorems.proofs.Theorems.{stored_restored as hash-restored, restored_stored as hash-stored, restored_width}
use Rattle.hash_theorems.proofs.Theorems.{old_restored as hash-old, old_form_restored as hash-old-form}
use Rattle.hmac_parts.proofs.Keyed.{IsKeyed, keyed_facts}
use Rattle.hmac.specs.Keyed.{legal, opened}
use Rattle.hmac.specs.Form.{keyed_form, old_keyed_form, front, back, current_keyed, hmac_of, keyed_refusal, restore_answer}
use Rattle.hmac.specs.declared.Hmac.{Hmac}

-- What every value of the struct keeps to.
pub record Values (k : Hmac) : Type 0 where
  pub inner : Value k.inner
  pub outer : Value k.outer

-- Two forms of one size, one behind the other, are restored to the keyed hash of their hashes.
module _ (k : Hmac) (good : legal k ≡ true) (a b : List ℕ) (same_size : length b ≡ length a) where
  half : length a ≡ length (a ++ b) / 2
  half = omega (arith, length-append a b)

  joined_restored : restored a ≡ record { hash = k.inner; refusal = 0 } → restored b ≡ record { hash = k.outer; refusal = 0 }
      → restore_answer (a ++ b) ≡ record { hmac = k; refusal = 0 }
  unfolding restore_answer keyed_refusal hmac_of opened first front back
  joined_restored inner outer =
      let front_form = ap restored (take_at a b (length (a ++ b) / 2) half) ∙ inner in
      let back_form = ap restored (drop_at a b (length (a ++ b) / 2) half) ∙ outer in
      rw (front_form, back_form, good)

-- Stored and restored it is the same, and so it is if it was stored while a hash held its length in 32 bits.
module _ (k : Hmac) (v : Values k) (good : legal k ≡ true) where
  facts : IsKeyed k.inner k.outer
  unfolding legal
  facts = keyed_facts k.inner k.outer good

  same_size : length (form_of k.outer) ≡ length (form_of k.inner)
  same_size =
      form_length k.outer (long v.outer.sized)
      ∙ ap (λ (w : ℕ). form_bytes (family_of w)) facts.one_width
      ∙ sym (form_length k.inner (long v.inner.sized))

  pub keyed_length : length (keyed_form k) ≡ 2 * form_bytes (family k.inner)
  unfolding keyed_form
  keyed_length = omega (arith, length-append (form_of k.inner) (form_of k.outer), same_size, form_length k.inner (long v.inner.sized))

  pub stored_restored : restore_answer (keyed_form k) ≡ record { hmac = k; refusal = 0 }
  unfolding keyed_form
  stored_restored =
      joined_restored k good (form_of k.inner) (form_of k.outer) same_size
      (hash-restored k.inner v.inner facts.inner_legal)
      (hash-restored k.outer v.outer facts.outer_legal)

  -- The outer hash has one block, whose bits 32 bits hold.
  pub old_form_restored : k.inner.bits < 2 ^ 32 → restore_answer (old_keyed_form k) ≡ record { hmac = k; refusal = 0 }
  unfolding old_keyed_form
  old_form_restored short =
      let inner_size = old_form_bytes_lem k.inner v.inner in
      let outer_size = old_form_bytes_lem k.outer v.outer ∙ ap (λ (w : ℕ). old_form_bytes (family_of w)) facts.one_width in
      joined_restored k good (old_form_of k.inner) (old_form_of k.outer) (outer_size ∙ sym inner_size)
      (hash-old-form k.inner v.inner facts.inner_legal short)
      (hash-old-form k.outer v.outer facts.outer_legal (omega (arith, facts.exact, facts.long)))

-- An accepted form stored again is the form of today that it stands for, and it is a keyed hash, whether or not a key and a message reach it.
pub opened_refusal : (r : ℕ) (k : Hmac) → (opened r k).refusal ≡ r
unfolding opened
opened_refusal zero k = refl
opened_refusal (suc r) k = refl

pub opened_known : (r : ℕ) (k : Hmac) → r ≡ 0 → opened r k ≡ record { hmac = k; refusal = 0 }
unfolding opened
opened_known r k none = ap (λ (r : ℕ). opened r k) none

module _ (form : List ℕ) (fits : (i : ℕ) → get_or form i 0 < 256) (none : (restore_answer form).refusal ≡ 0) where
  pub front_fits : (i : ℕ) → get_or (front form) i 0 < 256
  unfolding front
  front_fits = below_take 256 (length form / 2) form fits

  pub back_fits : (i : ℕ) → get_or (back form) i 0 < 256
  unfolding back
  back_fits i = rw (get_or-drop (length form / 2) form i 0) (fits (length form / 2 + i))

  pub refusals : ((restored (front form)).refusal ≡ 0) × (((restored (back form)).refusal ≡ 0) × (legal (hmac_of form) ≡ true))
  unfolding restore_answer keyed_refusal
  refusals =
      let all = sym (opened_refusal (keyed_refusal form) (hmac_of form)) ∙ none in
      let one = both_passed (restored (front form)).refusal _ all in
      let two = both_passed (restored (back form)).refusal _ one.1 in
      (one.0, (two.0, (passed (legal (hmac_of form)) 0 4 two.1).0))

  pub restored_is : restore_answer form ≡ record { hmac = hmac_of form; refusal = 0 }
  unfolding restore_answer
  restored_is = opened_known (keyed_refusal form) (hmac_of form) (sym (opened_refusal (keyed_refusal form) (hmac_of form)) ∙ none)

  pub restored_stored : (keyed_form (restore_answer form).hmac ≡ current_keyed form)
      × (legal (restore_answer form).hmac ≡ true) × Values (restore_answer form).hmac
  unfolding keyed_form current_keyed hmac_of
  restored_stored =
      let one = hash-stored (front form) front_fits refusals.0 in
      let two = hash-stored (back form) back_fits refusals.1.0 in
      rw restored_is (
        (λ i. one.0 i ++ two.0 i),
        refusals.1.1,
        record { inner = one.2; outer = two.2 },
      )

  -- One of today's size is the same bytes: its halves have no old size, of either family.
  pub same_bytes : length form ≡ 2 * form_bytes (form_family (front form)) → keyed_form (restore_answer form).hmac ≡ form
  unfolding current_keyed front back
  same_bytes size =
      let f = form_family (front form) in
      let half : length form / 2 ≡ form_bytes f = omega arith in
      let no_old_half : (f g : Family) → old_form_bytes f ≡ form_bytes g → ⊥ = λ f g same. old_sizes f g 2 2 (omega arith) in
      let one = current_same (front form) (λ old. no_old_half (form_family (front form)) f (sym old ∙ omega (arith, length-take (length form / 2) form))) in
      let two = current_same (back form) (λ old. no_old_half (form_family (back form)) f (sym old ∙ omega (arith, length-drop (length form / 2) form))) in
      restored_stored.0 ∙ (λ i. one i ++ two i) ∙ take-append-drop (length form / 2) form

-- A keyed form whose halves both are old gives what its new form gives.
module _ (form : List ℕ) (old_front : length (front form) ≡ old_form_bytes (form_family (front form)))
    (old_back : length (back form) ≡ old_form_bytes (form_family (back form))) where
  abbrev new : List ℕ
  new = widened (front form) ++ widened (back form)

  pub old_current : current_keyed form ≡ new
  unfolding current_keyed
  old_current = λ i. current_old (front form) old_front i ++ current_old (back form) old_back i

  new_half : length (widened (front form)) ≡ length new / 2
  unfolding front back
  new_half =
      omega (
        arith,
        old_front,
        old_back,
        length-take (length form / 2) form,
        length-drop (length form / 2) form,
        widened_size (front form) (omega (arith, old_front)),
        widened_size (back form) (omega (arith, old_back)),
        length-append (widened (front form)) (widened (back form)),
      )

  front_new : restored (front new) ≡ restored (front form)
  unfolding front
  front_new = ap restored (take_at (widened (front form)) (widened (back form)) (length new / 2) new_half) ∙ sym (hash-old (front form) old_front)

  back_new : restored (back new) ≡ restored (back form)
  unfolding back
  back_new = ap restored (drop_at (widened (front form)) (widened (back form)) (length new / 2) new_half) ∙ sym (hash-old (back form) old_back)

  pub old_restored : restore_answer form ≡ restore_answer new
  unfolding restore_answer keyed_refusal hmac_of
  old_restored = rw (front_new, back_new)

-- An accepted one of the old size has two old halves, since both are of one width. Stored again it is its new form.
module _ (form : List ℕ) (fits : (i : ℕ) → get_or form i 0 < 256) (none : (restore_answer form).refusal ≡ 0)
    (old : length form ≡ 2 * old_form_bytes (form_family (front form))) where
  old_front : length (front form) ≡ old_form_bytes (form_family (front form))
  unfolding front
  old_front = omega (arith, old, length-take (length form / 2) form)

  one_width : form_width (front form) ≡ form_width (back form)
  unfolding legal hmac_of
  one_width =
      let all = refusals form fits none in
      sym (restored_width (front form) all.0)
      ∙ sym (keyed_facts (restored (front form)).hash (restored (back form)).hash all.1.1).one_width
      ∙ restored_width (back form) all.1.0

  back_bytes : length (back form) ≡ length (front form)
  unfolding front back
  back_bytes = omega (arith, old, length-take (length form / 2) form, length-drop (length form / 2) form)

  old_back : length (back form) ≡ old_form_bytes (form_family (back form))
  old_back = back_bytes ∙ old_front ∙ ap (λ (w : ℕ). old_form_bytes (family_of w)) one_width

  pub old_stored : keyed_form (restore_answer form).hmac ≡ widened (front form) ++ widened (back form)
  old_stored = (restored_stored form fits none).0 ∙ old_current form old_front old_back
