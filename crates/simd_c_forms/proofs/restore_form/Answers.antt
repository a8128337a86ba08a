-- Refused, or the hash that is answered, stored.
use Rattle.std.proofs.lemmas.Result.{err_from_is_err_and}
use Rattle.simd_c_forms.specs.Calls.{restore_call}
use Rattle.simd_c_forms.proofs.Turns.{opened_refused, opened_stored}
use Rattle.simd_c_forms.proofs.restore_form.Goals as goal

pub returns-in_err-of_form-clause-value : goal.returns-in_err-of_form-clause-value
unfolding restore_call
returns-in_err-of_form-clause-value c =
    let p = err_from_is_err_and c.from_residual.result c.from_residual.ensures.1 in
    rw (p.1, p.2) (opened_refused c.args.out.now _ c.in_err-of_form.ensures).0

pub returns-in_err-of_form-clause-out_after : goal.returns-in_err-of_form-clause-out_after
unfolding restore_call
returns-in_err-of_form-clause-out_after c = (opened_refused c.args.out.now _ c.in_err-of_form.ensures).1

pub returns : goal.returns
unfolding restore_call
returns c =
    let told = opened_stored c.args.out.now c.in_ok-of_form.ensures c.write.ensures.0 c.write.ensures.1 in
    record { value = told.0; out_after = told.1 }
