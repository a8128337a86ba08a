-- Refused, none; else the parts of the form, each in its place.
use Rattle.std.proofs.lemmas.Result.{err_from_is_err_and}
use native.Mathlib.Omega.{arith}
use Rattle.tail.proofs.Sizes.{bytes_within}
use Rattle.form.proofs.Current.{at_least}
use Rattle.hash.specs.Form.{form_family}
use Rattle.hash.proofs.Answers.{restore_refused, restore_answered, restore_size, block_size}
use Rattle.hash.proofs.Hash.of_form.Goals as goal

pub read_width-width-requires : goal.read_width-width-requires
read_width-width-requires c = omega (arith, at_least c.args.form.now (restore_size c.args.form.now c.in_ok-restore_refusal.ensures))

pub returns-in_err-restore_refusal : goal.returns-in_err-restore_refusal
returns-in_err-restore_refusal c =
    let p = err_from_is_err_and c.from_residual.result c.from_residual.ensures.1 in
    rw (p.1, p.2) (restore_refused _ c.args.form.now c.in_err-restore_refusal.ensures)

pub form_bits-requires : goal.form_bits-requires
form_bits-requires c =
    let form = c.args.form.now in
    let block = block_size form _ _ c.read_width-width.ensures c.block_bytes-size.ensures in
    (block, omega (arith, block, bytes_within (form_family form)), restore_size form c.in_ok-restore_refusal.ensures)

pub form_state-requires : goal.form_state-requires
form_state-requires c =
    let form = c.args.form.now in
    let block = block_size form _ _ c.read_width-width.ensures c.block_bytes-size.ensures in
    (block, omega (arith, block, bytes_within (form_family form)), restore_size form c.in_ok-restore_refusal.ensures)

pub form_tail-requires : goal.form_tail-requires
form_tail-requires c =
    let form = c.args.form.now in
    let block = block_size form _ _ c.read_width-width.ensures c.block_bytes-size.ensures in
    (block, omega (arith, block, bytes_within (form_family form)), restore_size form c.in_ok-restore_refusal.ensures)

pub returns : goal.returns
returns c =
    restore_answered c.args.form.now c.in_ok-restore_refusal.ensures c.read_width-width.result c.form_bits.result c.form_state.result c.form_tail.result
    c.read_width-width.ensures c.form_bits.ensures c.form_state.ensures c.form_tail.ensures
