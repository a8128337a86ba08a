-- Refused, nothing is written; else the tag of the two hashes.
use mathlib.Core.Path.{refl}
use Rattle.std.proofs.lemmas.Result.{err_from_is_err_and}
use Rattle.refusals.specs.Numbers.{number}
use Rattle.hmac_key.proofs.Bytes.{not_0}
use Rattle.hmac.proofs.Answers.{take_refused, take_facts, take_answered}
use Rattle.hmac.proofs.Hmac.write_tag.Goals as goal

pub returns-in_err-tag_refusal : goal.returns-in_err-tag_refusal
returns-in_err-tag_refusal c =
    let a = c.args in
    let e = c.in_err-tag_refusal in
    let p = err_from_is_err_and c.from_residual.result c.from_residual.ensures.1 in
    rw (p.1, p.2) (take_refused a.self.now a.out.now _ e.ensures (not_0 _))

pub finish-requires : goal.finish-requires
finish-requires c = take_facts c.args.self.now c.args.out.now 0 c.in_ok-tag_refusal.ensures refl

pub returns : goal.returns
returns c =
    take_answered c.args.self.now c.args.out.now 0 c.in_ok-tag_refusal.ensures refl c.finish.ensures.0 c.finish.ensures.1
