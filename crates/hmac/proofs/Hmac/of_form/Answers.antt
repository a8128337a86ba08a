-- Each half is restored in turn, and then the two are asked whether they are those of a keyed hash.
use mathlib.Core.List.{List}
use mathlib.Core.Path.{◌≡◌, sym, refl, ap, ◌∙◌}
use Prim.Native.Nat.{ℕ, ◌/◌}
use lib.ListN.{length, take, drop}
use Rattle.std.proofs.lemmas.Result.{err_from_is_err_and}
use Rattle.hash.specs.Open.{Opened}
use Rattle.hash.specs.Form.{restore_answer as restored}
use Rattle.hmac_key.proofs.Bytes.{not_0}
use Rattle.hmac.specs.Form.{front, back}
use Rattle.hmac.proofs.Storing.{front_refused, back_refused, not_keyed, both_restored}
use Rattle.hmac.proofs.Hmac.of_form.Goals as goal

-- The halves are those of the definition.
of_front : (form half : List ℕ) {o : Opened} → half ≡ take (length form / 2) form → o ≡ restored half → o ≡ restored (front form)
unfolding front
of_front form half same e = e ∙ ap restored same

of_back : (form half : List ℕ) {o : Opened} → half ≡ drop (length form / 2) form → o ≡ restored half → o ≡ restored (back form)
unfolding back
of_back form half same e = e ∙ ap restored same

pub returns-in_err-inner : goal.returns-in_err-inner
returns-in_err-inner c =
    let form = c.args.form.now in
    let p = err_from_is_err_and c.from_residual.result c.from_residual.ensures.1 in
    rw (p.1, p.2) (front_refused form (of_front form _ c.split_at.ensures.front c.in_err-inner.ensures) (not_0 _))

pub returns-in_err-outer : goal.returns-in_err-outer
returns-in_err-outer c =
    let form = c.args.form.now in
    let p = err_from_is_err_and c.from_residual-in_err-outer.result c.from_residual-in_err-outer.ensures.1 in
    rw (p.1, p.2) (back_refused form (of_front form _ c.split_at.ensures.front c.in_ok-inner.ensures) refl
    (of_back form _ c.split_at.ensures.back c.in_err-outer.ensures) (not_0 _))

pub returns-then-not-is_keyed : goal.returns-then-not-is_keyed
returns-then-not-is_keyed c =
    let form = c.args.form.now in
    not_keyed form (of_front form _ c.split_at.ensures.front c.in_ok-inner.ensures) refl
    (of_back form _ c.split_at.ensures.back c.in_ok-outer.ensures) refl (sym c.is_keyed.ensures ∙ c.if-not-is_keyed.true)

pub returns : goal.returns
returns c =
    let form = c.args.form.now in
    both_restored form (of_front form _ c.split_at.ensures.front c.in_ok-inner.ensures) refl
    (of_back form _ c.split_at.ensures.back c.in_ok-outer.ensures) refl (sym c.is_keyed.ensures ∙ c.if-not-is_keyed.false)
