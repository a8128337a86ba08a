-- Restore and check refuse in turn; only where neither does is the verdict written.
use mathlib.Core.Bool.{Bool, true, false}
use mathlib.Core.List.{List}
use mathlib.Core.Path.{◌≡◌, refl, sym, ap, ◌∙◌}
use Prim.Native.Nat.{ℕ}
use Rattle.std.specs.Int.{from_bool}
use Rattle.std.proofs.lemmas.Result.{err_from_is_err_and}
use Rattle.hmac.specs.Keyed.{Opened, Checked, check_answer}
use Rattle.hmac.specs.Form.{restore_answer}
use Rattle.hmac_key.proofs.Bytes.{not_0}
use Rattle.simd_c_forms.proofs.Turns.{unread, untold, told}
use Rattle.simd_c_hmac.specs.Calls.{check_call, yes}
use Rattle.simd_c_hmac.proofs.check_form.Goals as goal

-- The hash restored and checked is what the definition checks.
same_checked : (form given : List ℕ) {o : Opened} {a : Checked} → o ≡ restore_answer form → a ≡ check_answer o.hmac given
    → a ≡ check_answer (restore_answer form).hmac given
same_checked form given opened checked = checked ∙ ap (λ (o : Opened). check_answer o.hmac given) opened

-- The verdict as a number.
same_number : (right : Bool) (n : ℕ) → n ≡ from_bool right → n ≡ yes right
unfolding yes
same_number true n e = e
same_number false n e = e

pub returns-in_err-hmac : goal.returns-in_err-hmac
unfolding check_call
returns-in_err-hmac c =
    let a = c.args in
    let asked = check_answer (restore_answer a.form.now).hmac a.given.now in
    let e = c.in_err-hmac in
    let w = unread (ap (λ (o : Opened). o.refusal) e.ensures) asked.refusal (yes asked.right) a.right.now (not_0 _) in
    let p = err_from_is_err_and c.from_residual.result c.from_residual.ensures.1 in
    record { value = rw (p.1, p.2) w.0; right_after = w.1 }

pub returns-in_err-verdict : goal.returns-in_err-verdict
unfolding check_call
returns-in_err-verdict c =
    let a = c.args in
    let asked = check_answer (restore_answer a.form.now).hmac a.given.now in
    let opened = c.in_ok-hmac.ensures in
    let e = c.in_err-verdict in
    let w = untold (ap (λ (o : Opened). o.refusal) opened) asked.refusal (yes asked.right) a.right.now refl
    (ap (λ (k : Checked). k.refusal) (same_checked a.form.now a.given.now opened e.ensures)) (not_0 _) in
    let p = err_from_is_err_and c.from_residual-in_err-verdict.result c.from_residual-in_err-verdict.ensures.1 in
    record { value = rw (p.1, p.2) w.0; right_after = w.1 }

pub returns : goal.returns
unfolding check_call yes
returns c =
    let a = c.args in
    let asked = check_answer (restore_answer a.form.now).hmac a.given.now in
    let opened = c.in_ok-hmac.ensures in
    let same = same_checked a.form.now a.given.now opened c.in_ok-verdict.ensures in
    let w = told (ap (λ (o : Opened). o.refusal) opened) asked.refusal (yes asked.right) a.right.now refl
    (ap (λ (k : Checked). k.refusal) same) refl (same_number _ _ c.from.ensures ∙ ap yes (ap (λ (k : Checked). k.right) same)) in
    record { value = w.0; right_after = w.1 }
