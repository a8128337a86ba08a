-- Refused, the keyed hash stays; else its inner hash is fed.
use mathlib.Core.Path.{sym, ◌∙◌}
use Rattle.hmac.proofs.Answers.{feed_illegal, feed_answered, fed_inner}
use Rattle.hmac.proofs.Hmac.absorb.Goals as goal

pub returns-then-not-is_keyed : goal.returns-then-not-is_keyed
returns-then-not-is_keyed c =
    let a = c.args in
    feed_illegal a.self.now a.piece.now a.count (sym c.is_keyed.ensures ∙ c.if-not-is_keyed.true)

pub returns : goal.returns
returns c =
    let a = c.args in
    fed_inner _ _ c.absorb.result ∙ feed_answered a.self.now a.piece.now a.count (sym c.is_keyed.ensures ∙ c.if-not-is_keyed.false) c.absorb.ensures
