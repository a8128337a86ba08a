-- Refused, or the hash that is answered, stored.
use Rattle.std.proofs.lemmas.Result.{err_from_is_err_and}
use Rattle.simd_c_forms.specs.Calls.{open_call, opened_hash}
use Rattle.simd_c_forms.proofs.Turns.{opened_refused, opened_stored}
use Rattle.simd_c_forms.proofs.open_form.Goals as goal

pub returns-in_err-at-clause-value : goal.returns-in_err-at-clause-value
unfolding open_call opened_hash
returns-in_err-at-clause-value c =
    let p = err_from_is_err_and c.from_residual.result c.from_residual.ensures.1 in
    rw (p.1, p.2) (opened_refused c.args.form.now _ c.in_err-at.ensures).0

pub returns-in_err-at-clause-form_after : goal.returns-in_err-at-clause-form_after
unfolding open_call opened_hash
returns-in_err-at-clause-form_after c = (opened_refused c.args.form.now _ c.in_err-at.ensures).1

pub returns : goal.returns
unfolding open_call opened_hash
returns c =
    let told = opened_stored c.args.form.now c.in_ok-at.ensures c.write_form.ensures.0 c.write_form.ensures.1 in
    record { value = told.0; form_after = told.1 }
