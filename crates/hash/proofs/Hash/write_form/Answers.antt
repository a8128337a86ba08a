-- Refused, nothing is written; else the form of the hash's parts.
use mathlib.Core.Path.{◌∙◌}
use Rattle.std.proofs.lemmas.Result.{err_from_is_err_and}
use native.Mathlib.Omega.{arith}
use borrow.Author.Rules.{rules}
use lib.ListN.{length-take}
use Rattle.tail.proofs.Sizes.{bytes_within}
use Rattle.hash.specs.Open.{family}
use Rattle.hash.proofs.Answers.{store_refusal_lem, store_refused, store_facts, store_answered}
use Rattle.hash.proofs.Hash.write_form.Goals as goal

pub returns-in_err-output_refusal : goal.returns-in_err-output_refusal
returns-in_err-output_refusal c =
    let a = c.args in
    let p = err_from_is_err_and c.from_residual.result c.from_residual.ensures.1 in
    rw (p.1, p.2)
    (store_refused _ a.self.now a.out.now (store_refusal_lem a.self.now a.out.now c.form_bytes-length.ensures c.in_err-output_refusal.ensures))

pub slice_bounds-write_form-end : goal.slice_bounds-write_form-end
slice_bounds-write_form-end c =
    let a = c.args in
    let d = c.form_bytes-length.ensures in
    omega (arith, (store_facts a.self.now a.out.now (store_refusal_lem a.self.now a.out.now d c.in_ok-output_refusal.ensures)).1, d)

pub write_form-requires : goal.write_form-requires
write_form-requires c =
    let a = c.args in
    let d = c.form_bytes-length in
    let facts = store_facts a.self.now a.out.now (store_refusal_lem a.self.now a.out.now d.ensures c.in_ok-output_refusal.ensures) in
    let size = c.block_bytes-size.ensures in (
      omega (arith, length-take d.result a.out.now, facts.1, d.ensures, size),
      omega (arith, size, bytes_within (family a.self.now)),
      (search rules),
      omega (arith, size),
    )

pub returns : goal.returns
returns c =
    let a = c.args in
    let d = c.form_bytes-length in
    let call = c.write_form in
    let none = store_refusal_lem a.self.now a.out.now d.ensures c.in_ok-output_refusal.ensures in
    store_answered a.self.now a.out.now none (search rules) (search rules)
    c.block_bytes-size.result d.result c.block_bytes-size.ensures d.ensures call.new.out call.ensures
    (call.auto.out ∙ omega (arith, length-take d.result a.out.now, (store_facts a.self.now a.out.now none).1, d.ensures))
