-- Restore, feed and store refuse in turn; only where none does are the form and the number of blocks written.
use mathlib.Core.List.{List}
use mathlib.Core.Path.{◌≡◌, refl, ap, ◌∙◌}
use Prim.Native.Nat.{ℕ}
use Rattle.std.proofs.lemmas.Result.{err_from_is_err_and}
use Rattle.hmac.specs.Keyed.{Opened, Fed, feed_answer}
use Rattle.hmac.specs.Form.{Stored, keyed_form, store_answer, store_refusal, restore_answer}
use Rattle.hmac.specs.declared.Hmac.{Hmac}
use Rattle.hmac_key.proofs.Bytes.{not_0}
use Rattle.simd_c_hmac.specs.Calls.{fed_from, feed_call}
use Rattle.simd_c_forms.proofs.Turns.{first_refuses, second_refuses, no_room, all_done}
use Rattle.simd_c_hmac.proofs.feed_form.Goals as goal

-- The hash restored and fed is what the definition feeds.
same_fed : (form piece : List ℕ) (bits : ℕ) {o : Opened} {f : Fed} → o ≡ restore_answer form → f ≡ feed_answer o.hmac piece bits
    → f ≡ fed_from form piece bits
unfolding fed_from
same_fed form piece bits opened fed = fed ∙ ap (λ (o : Opened). feed_answer o.hmac piece bits) opened

pub returns-in_err-hmac : goal.returns-in_err-hmac
unfolding feed_call store_answer
returns-in_err-hmac c =
    let a = c.args in
    let form = a.form.now in
    let next = fed_from form a.piece.now a.bits in
    let e = c.in_err-hmac in
    let w = first_refuses (λ (h : Hmac). store_refusal h form) keyed_form form next.hmac next.blocks a.blocks.now next.refusal
    (ap (λ (o : Opened). o.refusal) e.ensures) (not_0 _) in
    let p = err_from_is_err_and c.from_residual.result c.from_residual.ensures.1 in
    record { value = rw (p.1, p.2) w.0; form_after = w.1.0; blocks_after = w.1.1 }

pub returns-in_err-fed : goal.returns-in_err-fed
unfolding feed_call store_answer
returns-in_err-fed c =
    let a = c.args in
    let form = a.form.now in
    let next = fed_from form a.piece.now a.bits in
    let opened = c.in_ok-hmac.ensures in
    let e = c.in_err-fed in
    let fed = same_fed form a.piece.now a.bits opened e.ensures in
    let w = second_refuses (λ (h : Hmac). store_refusal h form) keyed_form form next.hmac next.blocks a.blocks.now next.refusal
    (ap (λ (o : Opened). o.refusal) opened) refl (ap (λ (f : Fed). f.refusal) fed) (not_0 _) in
    let p = err_from_is_err_and c.from_residual-in_err-fed.result c.from_residual-in_err-fed.ensures.1 in
    record { value = rw (p.1, p.2) w.0; form_after = w.1.0; blocks_after = w.1.1 }

pub returns-in_err-write_form : goal.returns-in_err-write_form
unfolding feed_call store_answer
returns-in_err-write_form c =
    let a = c.args in
    let form = a.form.now in
    let next = fed_from form a.piece.now a.bits in
    let opened = c.in_ok-hmac.ensures in
    let e = c.in_err-write_form in
    let fed = same_fed form a.piece.now a.bits opened c.in_ok-fed.ensures in
    let w = no_room (λ (h : Hmac). store_refusal h form) keyed_form form next.hmac next.blocks a.blocks.now next.refusal
    (ap (λ (o : Opened). o.refusal) opened) refl (ap (λ (f : Fed). f.refusal) fed) refl (ap (λ (f : Fed). f.hmac) fed)
    (ap (λ (s : Stored). s.refusal) e.ensures.0) e.ensures.1 (not_0 _) in
    let p = err_from_is_err_and c.from_residual-in_err-write_form.result c.from_residual-in_err-write_form.ensures.1 in
    record { value = rw (p.1, p.2) w.0; form_after = w.1.0; blocks_after = w.1.1 }

pub returns : goal.returns
unfolding feed_call store_answer
returns c =
    let a = c.args in
    let form = a.form.now in
    let next = fed_from form a.piece.now a.bits in
    let opened = c.in_ok-hmac.ensures in
    let stored = c.in_ok-write_form.ensures in
    let fed = same_fed form a.piece.now a.bits opened c.in_ok-fed.ensures in
    let w = all_done (λ (h : Hmac). store_refusal h form) keyed_form form next.hmac next.blocks a.blocks.now next.refusal
    (ap (λ (o : Opened). o.refusal) opened) refl (ap (λ (f : Fed). f.refusal) fed) refl (ap (λ (f : Fed). f.hmac) fed)
    (ap (λ (s : Stored). s.refusal) stored.0) stored.1 refl (ap (λ (f : Fed). f.blocks) fed) in
    record { value = w.0; form_after = w.1.0; blocks_after = w.1.1 }
