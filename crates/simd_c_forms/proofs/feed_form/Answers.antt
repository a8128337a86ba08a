-- Restore, feed and store refuse in turn; only where none does are the form and the number of blocks written.
use mathlib.Core.Path.{refl}
use Rattle.std.proofs.lemmas.Result.{err_from_is_err_and}
use Rattle.refusals.proofs.Numbers.{refused_not_0}
use Rattle.simd_c_forms.proofs.Answers.{feed_unread, feed_unfed, feed_unstored, feed_done}
use Rattle.simd_c_forms.proofs.feed_form.Goals as goal

pub returns-in_err-hash : goal.returns-in_err-hash
returns-in_err-hash c =
    let a = c.args in
    let p = err_from_is_err_and c.from_residual.result c.from_residual.ensures.1 in
    let w = feed_unread a.form.now a.piece.now a.bits a.blocks.now _ c.in_err-hash.ensures in
    record { value = rw (p.1, p.2) w.0; form_after = w.1.0; blocks_after = w.1.1 }

pub returns-in_err-fed : goal.returns-in_err-fed
returns-in_err-fed c =
    let a = c.args in
    let p = err_from_is_err_and c.from_residual-in_err-fed.result c.from_residual-in_err-fed.ensures.1 in
    let w = feed_unfed a.form.now a.piece.now a.bits a.blocks.now c.in_ok-hash.ensures _ c.in_err-fed.ensures in
    record { value = rw (p.1, p.2) w.0; form_after = w.1.0; blocks_after = w.1.1 }

pub returns-in_err-write_form : goal.returns-in_err-write_form
returns-in_err-write_form c =
    let a = c.args in
    let p = err_from_is_err_and c.from_residual-in_err-write_form.result c.from_residual-in_err-write_form.ensures.1 in
    let w =
    feed_unstored a.form.now a.piece.now a.bits a.blocks.now c.in_ok-hash.ensures c.in_ok-fed.ensures c.in_err-write_form.ensures.0 c.in_err-write_form.ensures.1
    (refused_not_0 _ _ refl) in
    record { value = rw (p.1, p.2) w.0; form_after = w.1.0; blocks_after = w.1.1 }

pub returns : goal.returns
returns c =
    let a = c.args in
    let w =
    feed_done a.form.now a.piece.now a.bits a.blocks.now c.in_ok-hash.ensures c.in_ok-fed.ensures c.in_ok-write_form.ensures.0 c.in_ok-write_form.ensures.1 refl in
    record { value = w.0; form_after = w.1.0; blocks_after = w.1.1 }
