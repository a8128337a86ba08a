-- Refused, there is no verdict; else the bytes given are compared with the tag.
use mathlib.Core.Path.{sym, ◌∙◌}
use Rattle.hmac.proofs.Answers.{check_illegal, check_answered}
use Rattle.hmac.proofs.Hmac.verify.Goals as goal

pub returns-then-not-is_keyed : goal.returns-then-not-is_keyed
returns-then-not-is_keyed c =
    check_illegal c.args.self.now c.args.given.now (sym c.is_keyed.ensures ∙ c.if-not-is_keyed.true)

pub is_tag-right-requires : goal.is_tag-right-requires
is_tag-right-requires c = sym c.is_keyed.ensures ∙ c.if-not-is_keyed.false

pub returns : goal.returns
returns c =
    check_answered c.args.self.now c.args.given.now (sym c.is_keyed.ensures ∙ c.if-not-is_keyed.false) c.is_tag-right.ensures
