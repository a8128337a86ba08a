-- An illegal hash is refused before its piece.
use mathlib.Core.Path.{sym, ◌∙◌}
use Rattle.hash.specs.Open.{legal, feed_refusal}
use Rattle.hash.proofs.Refusing.{chosen, other}
use Rattle.hash.proofs.Hash.feed_refusal.Goals as goal

pub returns-then-not-is_legal : goal.returns-then-not-is_legal
unfolding feed_refusal legal
returns-then-not-is_legal c = other _ _ 5 (sym c.is_legal.ensures ∙ c.if-not-is_legal.true)

pub returns : goal.returns
unfolding feed_refusal legal
returns c = c.piece_refusal.ensures ∙ chosen _ _ 5 (sym c.is_legal.ensures ∙ c.if-not-is_legal.false)
