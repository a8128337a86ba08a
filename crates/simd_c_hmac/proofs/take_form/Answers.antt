-- Restore and take refuse in turn; only where neither does are the digest and the number of blocks written.
use mathlib.Core.List.{List}
use mathlib.Core.Path.{◌≡◌, refl, sym, ap, ◌∙◌}
use Prim.Native.Nat.{ℕ}
use Rattle.std.proofs.lemmas.Result.{err_from_is_err_and}
use Rattle.hash.specs.Open.{written}
use Rattle.hmac.specs.Keyed.{Opened, Taken, tag_of, take_refusal, take_answer}
use Rattle.hmac.specs.Form.{restore_answer}
use Rattle.hmac.specs.declared.Hmac.{Hmac}
use Rattle.hmac_key.proofs.Bytes.{not_0}
use Rattle.simd_c_hmac.specs.Calls.{take_call}
use Rattle.simd_c_hmac.proofs.Answers.{answered_refusal}
use Rattle.simd_c_forms.proofs.Turns.{Writes, step_refused, then_written, number_kept, number_put}
use Rattle.simd_c_hmac.proofs.take_form.Goals as goal

-- What a take of the hash restored answers and writes.
taken : (form out : List ℕ) {o : Opened} {t : Taken} {left : List ℕ} (opened : o ≡ restore_answer form) → o.refusal ≡ 0
    → (t ≡ take_answer o.hmac out) × (left ≡ written (take_refusal o.hmac out) (tag_of o.hmac) out)
    → Writes (λ (k : Hmac). (take_answer k out).refusal) tag_of out (restore_answer form).hmac (ap (λ (o : Opened). o.refusal) opened) t.refusal left
taken form out {o} {t} {left} opened none took =
    then_written (λ (k : Hmac). (take_answer k out).refusal) tag_of out (restore_answer form).hmac (ap (λ (o : Opened). o.refusal) opened) none
    (ap (λ (o : Opened). o.hmac) opened) (ap (λ (t : Taken). t.refusal) took.0)
    (took.1 ∙ ap (λ (n : ℕ). written n (tag_of o.hmac) out) (sym (answered_refusal o.hmac out)))

pub returns-in_err-hmac : goal.returns-in_err-hmac
unfolding take_call
returns-in_err-hmac c =
    let a = c.args in
    let out = a.out.now in
    let h = (restore_answer a.form.now).hmac in
    let e = c.in_err-hmac in
    let answer = ap (λ (o : Opened). o.refusal) e.ensures in
    let w = number_kept (λ (k : Hmac). (take_answer k out).refusal) tag_of out h answer (take_answer h out).blocks a.blocks.now
    (step_refused (λ (k : Hmac). (take_answer k out).refusal) tag_of out h answer (not_0 _)) (not_0 _) in
    let p = err_from_is_err_and c.from_residual.result c.from_residual.ensures.1 in
    record { value = rw (p.1, p.2) w.0; out_after = w.1.0; blocks_after = w.1.1 }

pub returns-in_err-taken : goal.returns-in_err-taken
unfolding take_call
returns-in_err-taken c =
    let a = c.args in
    let out = a.out.now in
    let h = (restore_answer a.form.now).hmac in
    let opened = c.in_ok-hmac.ensures in
    let e = c.in_err-taken in
    let w = number_kept (λ (k : Hmac). (take_answer k out).refusal) tag_of out h (ap (λ (o : Opened). o.refusal) opened) (take_answer h out).blocks
    a.blocks.now (taken a.form.now out opened refl e.ensures) (not_0 _) in
    let p = err_from_is_err_and c.from_residual-in_err-taken.result c.from_residual-in_err-taken.ensures.1 in
    record { value = rw (p.1, p.2) w.0; out_after = w.1.0; blocks_after = w.1.1 }

pub returns : goal.returns
unfolding take_call
returns c =
    let a = c.args in
    let out = a.out.now in
    let h = (restore_answer a.form.now).hmac in
    let opened = c.in_ok-hmac.ensures in
    let took = c.in_ok-taken.ensures in
    let w = number_put (λ (k : Hmac). (take_answer k out).refusal) tag_of out h (ap (λ (o : Opened). o.refusal) opened) (take_answer h out).blocks
    a.blocks.now (taken a.form.now out opened refl took) refl
    (ap (λ (t : Taken). t.blocks) took.0 ∙ ap (λ (o : Opened). (take_answer o.hmac out).blocks) opened) in
    record { value = w.0; out_after = w.1.0; blocks_after = w.1.1 }
