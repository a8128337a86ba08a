-- Refused, nothing is written; else the inner form over the front, and the outer form behind it.
use mathlib.Core.Path.{◌≡◌, refl, ap, ◌∙◌}
use Prim.Native.Nat.{◌≤◌}
use native.Mathlib.Omega.{arith}
use borrow.Author.Rules.{rules}
use lib.ListN.{length}
use Rattle.std.proofs.lemmas.Result.{err_from_is_err_and}
use Rattle.simd.specs.Basic.{family_of}
use Rattle.tail.proofs.Sizes.{bytes_within}
use Rattle.hash.specs.Form.{Stored, store_answer}
use Rattle.hash_theorems.proofs.Held.{Long}
use Rattle.hmac_key.proofs.Bytes.{not_0}
use Rattle.hmac.proofs.Storing.{store_refused, store_facts, inner_fits, outer_fits, stored_length, store_answered}
use Rattle.hmac.proofs.Hmac.write_form.Goals as goal

pub overflow_mul-half : goal.overflow_mul-half
overflow_mul-half c = omega (arith, c.form_bytes-half.ensures, bytes_within (family_of c.args.self.inner.width))

pub returns-in_err-output_refusal : goal.returns-in_err-output_refusal
returns-in_err-output_refusal c =
    let a = c.args in
    let h = c.form_bytes-half in
    let e = c.in_err-output_refusal.ensures in
    let p = err_from_is_err_and c.from_residual.result c.from_residual.ensures.1 in
    rw (p.1, p.2) (store_refused a.self a.out.now _ h.result h.ensures e (not_0 _))

pub returns-in_err-write_form : goal.returns-in_err-write_form
unfolding store_answer
returns-in_err-write_form c =
    let a = c.args in
    let h = c.form_bytes-half in
    let inner : Long a.self.inner = record { words = search rules; bytes = search rules } in
    let outer : Long a.self.outer = record { words = search rules; bytes = search rules } in
    absurd (not_0 _ (ap (λ (s : Stored). s.refusal) c.in_err-write_form.ensures.0
    ∙ inner_fits a.self a.out.now 0 h.result h.ensures c.in_ok-output_refusal.ensures refl inner outer))

pub slice_bounds-write_form-start : goal.slice_bounds-write_form-start
slice_bounds-write_form-start c =
    let a = c.args in
    let h = c.form_bytes-half in
    let inner : Long a.self.inner = record { words = search rules; bytes = search rules } in
    let outer : Long a.self.outer = record { words = search rules; bytes = search rules } in
    let kept = stored_length a.self a.out.now 0 h.result h.ensures c.in_ok-output_refusal.ensures refl inner outer c.write_form.ensures.1 in
    omega (arith, kept, (store_facts a.self a.out.now 0 h.result h.ensures c.in_ok-output_refusal.ensures refl).1)

pub returns : goal.returns
unfolding store_answer
returns c =
    let a = c.args in
    let h = c.form_bytes-half in
    let same = c.in_ok-output_refusal.ensures in
    let inner : Long a.self.inner = record { words = search rules; bytes = search rules } in
    let outer : Long a.self.outer = record { words = search rules; bytes = search rules } in
    let one = c.in_ok-write_form.ensures.1 in
    let none = ap (λ (s : Stored). s.refusal) c.write_form-2.ensures.0 ∙ outer_fits a.self a.out.now 0 h.result h.ensures same refl inner outer one in
    let all = store_answered a.self a.out.now 0 h.result h.ensures same refl inner outer one c.write_form-2.ensures.1 in
    ((λ i. record { hmac = a.self; refusal = none i }) ∙ all.0, all.1)
