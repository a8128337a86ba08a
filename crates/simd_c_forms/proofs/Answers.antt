-- What the calls leave behind that feed and take: each step that may refuse, in turn, and the end.
use mathlib.Core.List.{List}
use mathlib.Core.Path.{◌≡◌, refl, sym, ap, ◌∙◌}
use Prim.Native.Nat.{ℕ, zero, suc}
use Rattle.std.specs.Prelude.{Ok, Err}
use Rattle.refusals.specs.declared.Refusal.{Refusal}
use Rattle.refusals.specs.Numbers.{number}
use Rattle.refusals.proofs.Numbers.{refused_not_0}
use Rattle.hash.specs.Open.{Opened, Fed, Taken, opened_by, fed_by, taken_by, feed_answer, take_answer, take_refusal, taken, digest_of, written}
use Rattle.hash.specs.Form.{Stored, form_of, store_answer, store_refusal, restore_answer}
use Rattle.hash.specs.declared.Hash.{Hash}
use Rattle.simd_c_forms.specs.Calls.{stored, fed_from, feed_call, take_call}
use Rattle.simd_c_forms.proofs.Turns.{Writes, first_refuses, second_refuses, no_room, all_done, step_refused, then_written, number_kept, number_put}

-- The refusal that a take answers.
taken_refusal : (r : ℕ) (h : Hash) → (taken r h).refusal ≡ r
unfolding taken
taken_refusal zero h = refl
taken_refusal (suc n) h = refl

pub answered_refusal : (h : Hash) (out : List ℕ) → (take_answer h out).refusal ≡ take_refusal h out
unfolding take_answer
answered_refusal h out = taken_refusal (take_refusal h out) h

some : (r : Refusal) → number r ≡ 0 → ⊥
some r = refused_not_0 r (number r) refl

module _ (form piece : List ℕ) (bits old : ℕ) where
  abbrev next : Fed
  next = fed_from form piece bits

  abbrev refusal : Hash → ℕ
  refusal h = store_refusal h form

  abbrev Feeds : ℕ → List ℕ → ℕ → Type 0
  Feeds n left blocks =
      (n ≡ feed_call form piece bits)
      × ((left ≡ written (feed_call form piece bits) (form_of next.hash) form) × (blocks ≡ stored (feed_call form piece bits) next.blocks old))

  pub feed_unread : (r : Refusal) → opened_by (Err r) ≡ restore_answer form → Feeds (number r) form old
  unfolding feed_call store_answer
  feed_unread r e = first_refuses refusal form_of form next.hash next.blocks old next.refusal (ap (λ (o : Opened). o.refusal) e) (some r)

  module _ {h : Hash} (read : opened_by (Ok h) ≡ restore_answer form) where
    given : {f : Fed} → f ≡ feed_answer h piece bits → f ≡ next
    unfolding fed_from
    given e = e ∙ ap (λ (o : Opened). feed_answer o.hash piece bits) read

    answer : 0 ≡ (restore_answer form).refusal
    answer = ap (λ (o : Opened). o.refusal) read

    pub feed_unfed : (r : Refusal) {g : Hash} → fed_by g (Err r) ≡ feed_answer h piece bits → Feeds (number r) form old
    unfolding feed_call store_answer
    feed_unfed r e =
        second_refuses refusal form_of form next.hash next.blocks old next.refusal answer refl (ap (λ (f : Fed). f.refusal) (given e)) (some r)

    module _ {g : Hash} {n : ℕ} (fed : fed_by g (Ok n) ≡ feed_answer h piece bits) {left : List ℕ} {m : ℕ}
        (asked : record { hash = g; refusal = m } ≡ store_answer g form) (wrote : left ≡ written (store_refusal g form) (form_of g) form) where
      pub feed_unstored : (m ≡ 0 → ⊥) → Feeds m left old
      unfolding feed_call store_answer
      feed_unstored full =
          no_room refusal form_of form next.hash next.blocks old next.refusal answer refl (ap (λ (f : Fed). f.refusal) (given fed)) refl
          (ap (λ (f : Fed). f.hash) (given fed)) (ap (λ (s : Stored). s.refusal) asked) wrote full

      pub feed_done : m ≡ 0 → Feeds 0 left n
      unfolding feed_call store_answer
      feed_done none =
          all_done refusal form_of form next.hash next.blocks old next.refusal answer refl (ap (λ (f : Fed). f.refusal) (given fed)) refl
          (ap (λ (f : Fed). f.hash) (given fed)) (ap (λ (s : Stored). s.refusal) asked) wrote none (ap (λ (f : Fed). f.blocks) (given fed))

module _ (form out : List ℕ) (old : ℕ) where
  abbrev hash : Hash
  hash = (restore_answer form).hash

  abbrev refused : Hash → ℕ
  refused h = (take_answer h out).refusal

  abbrev Takes : ℕ → List ℕ → ℕ → Type 0
  Takes n left blocks =
      (n ≡ take_call form out)
      × ((left ≡ written (take_call form out) (digest_of hash) out) × (blocks ≡ stored (take_call form out) (take_answer hash out).blocks old))

  pub take_unread : (r : Refusal) → opened_by (Err r) ≡ restore_answer form → Takes (number r) out old
  unfolding take_call
  take_unread r e =
      let answer = ap (λ (o : Opened). o.refusal) e in
      number_kept refused digest_of out hash answer _ old (step_refused refused digest_of out hash answer (some r)) (some r)

  module _ {h : Hash} (read : opened_by (Ok h) ≡ restore_answer form) {left : List ℕ} (wrote : left ≡ written (take_refusal h out) (digest_of h) out) where
    writes : {t : Taken} → t ≡ take_answer h out → Writes refused digest_of out hash (ap (λ (o : Opened). o.refusal) read) t.refusal left
    writes e =
        then_written refused digest_of out hash (ap (λ (o : Opened). o.refusal) read) refl (ap (λ (o : Opened). o.hash) read)
        (ap (λ (t : Taken). t.refusal) e) (wrote ∙ ap (λ (n : ℕ). written n (digest_of h) out) (sym (answered_refusal h out)))

    pub take_untaken : (r : Refusal) → taken_by h (Err r) ≡ take_answer h out → Takes (number r) left old
    unfolding take_call
    take_untaken r e = number_kept refused digest_of out hash (ap (λ (o : Opened). o.refusal) read) _ old (writes e) (some r)

    pub take_done : {n : ℕ} → taken_by h (Ok n) ≡ take_answer h out → Takes 0 left n
    unfolding take_call
    take_done e =
        number_put refused digest_of out hash (ap (λ (o : Opened). o.refusal) read) _ old (writes e) refl
        (ap (λ (t : Taken). t.blocks) e ∙ ap (λ (o : Opened). (take_answer o.hash out).blocks) read)
