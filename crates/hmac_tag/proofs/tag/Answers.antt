-- The refusals of open, feed and take in turn; where there is none, the tag is written.
use mathlib.Core.Path.{refl}
use Rattle.std.proofs.lemmas.Result.{err_from_is_err_and}
use Rattle.hmac_key.proofs.Bytes.{not_0}
use Rattle.hmac_tag.proofs.Whole.{key_refused, piece_refused, tag_taken}
use Rattle.hmac_tag.proofs.tag.Goals as goal

pub returns-in_err-hmac : goal.returns-in_err-hmac
returns-in_err-hmac c =
    let a = c.args in
    let e = c.in_err-hmac in
    let w = key_refused a.width a.key.now a.message.now a.count a.out.now e.ensures (not_0 _) in
    let p = err_from_is_err_and c.from_residual.result c.from_residual.ensures.1 in
    record { value = rw (p.1, p.2) w.0; out_after = w.1 }

pub returns-in_err-absorb : goal.returns-in_err-absorb
returns-in_err-absorb c =
    let a = c.args in
    let e = c.in_err-absorb in
    let w = piece_refused a.width a.key.now a.message.now a.count a.out.now c.in_ok-hmac.ensures refl e.ensures (not_0 _) in
    let p = err_from_is_err_and c.from_residual-in_err-absorb.result c.from_residual-in_err-absorb.ensures.1 in
    record { value = rw (p.1, p.2) w.0; out_after = w.1 }

pub returns-in_err-write_tag : goal.returns-in_err-write_tag
returns-in_err-write_tag c =
    let a = c.args in
    let e = c.in_err-write_tag in
    let w = tag_taken a.width a.key.now a.message.now a.count a.out.now c.in_ok-hmac.ensures refl c.in_ok-absorb.ensures refl e.ensures.0 e.ensures.1 in
    let p = err_from_is_err_and c.from_residual-in_err-write_tag.result c.from_residual-in_err-write_tag.ensures.1 in
    record { value = rw (p.1, p.2) w.0; out_after = w.1 }

pub returns : goal.returns
returns c =
    let a = c.args in
    let t = c.in_ok-write_tag.ensures in
    let w = tag_taken a.width a.key.now a.message.now a.count a.out.now c.in_ok-hmac.ensures refl c.in_ok-absorb.ensures refl t.0 t.1 in
    record { value = w.0; out_after = w.1 }
