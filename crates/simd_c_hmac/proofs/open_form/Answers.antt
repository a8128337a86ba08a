-- The opening's refusal, or what storing the new hash answers and leaves.
use mathlib.Core.Path.{refl, ap}
use Rattle.std.proofs.lemmas.Result.{err_from_is_err_and}
use Rattle.hmac.specs.Keyed.{Opened}
use Rattle.hmac.specs.Form.{Stored, keyed_form, store_answer, store_refusal}
use Rattle.hmac.specs.declared.Hmac.{Hmac}
use Rattle.hmac_key.proofs.Bytes.{not_0}
use Rattle.simd_c_hmac.specs.Calls.{opened_hmac, open_call}
use Rattle.simd_c_forms.proofs.Turns.{step_refused, then_written}
use Rattle.simd_c_hmac.proofs.open_form.Goals as goal

pub returns-in_err-hmac : goal.returns-in_err-hmac
unfolding open_call store_answer
returns-in_err-hmac c =
    let a = c.args in
    let form = a.form.now in
    let e = c.in_err-hmac in
    let w = step_refused (λ (h : Hmac). store_refusal h form) keyed_form form (opened_hmac a.width a.key.now)
    (ap (λ (o : Opened). o.refusal) e.ensures) (not_0 _) in
    let p = err_from_is_err_and c.from_residual.result c.from_residual.ensures.1 in
    record { value = rw (p.1, p.2) w.0; form_after = w.1 }

pub returns : goal.returns
unfolding open_call store_answer opened_hmac
returns c =
    let a = c.args in
    let form = a.form.now in
    let opening = c.in_ok-hmac.ensures in
    let w = then_written (λ (h : Hmac). store_refusal h form) keyed_form form (opened_hmac a.width a.key.now)
    (ap (λ (o : Opened). o.refusal) opening) refl (ap (λ (o : Opened). o.hmac) opening)
    (ap (λ (s : Stored). s.refusal) c.write_form.ensures.0) c.write_form.ensures.1 in
    record { value = w.0; form_after = w.1 }
