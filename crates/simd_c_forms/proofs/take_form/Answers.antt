-- Restore and take refuse in turn; only where neither does are the digest and the number of blocks written.
use Rattle.std.proofs.lemmas.Result.{err_from_is_err_and}
use Rattle.simd_c_forms.proofs.Answers.{take_unread, take_untaken, take_done}
use Rattle.simd_c_forms.proofs.take_form.Goals as goal

pub returns-in_err-hash : goal.returns-in_err-hash
returns-in_err-hash c =
    let a = c.args in
    let p = err_from_is_err_and c.from_residual.result c.from_residual.ensures.1 in
    let w = take_unread a.form.now a.out.now a.blocks.now _ c.in_err-hash.ensures in
    record { value = rw (p.1, p.2) w.0; out_after = w.1.0; blocks_after = w.1.1 }

pub returns-in_err-taken : goal.returns-in_err-taken
returns-in_err-taken c =
    let a = c.args in
    let p = err_from_is_err_and c.from_residual-in_err-taken.result c.from_residual-in_err-taken.ensures.1 in
    let w = take_untaken a.form.now a.out.now a.blocks.now c.in_ok-hash.ensures c.write_digest.ensures.1 _ c.in_err-taken.ensures.0 in
    record { value = rw (p.1, p.2) w.0; out_after = w.1.0; blocks_after = w.1.1 }

pub returns : goal.returns
returns c =
    let a = c.args in
    let w = take_done a.form.now a.out.now a.blocks.now c.in_ok-hash.ensures c.write_digest.ensures.1 c.in_ok-taken.ensures.0 in
    record { value = w.0; out_after = w.1.0; blocks_after = w.1.1 }
