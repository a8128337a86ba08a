-- Each refusal is that of its test; what is left is the comparison of two messages that break no rule.
use Rattle.std.proofs.Common.{sym, ◌∙◌}
use Rattle.hash.proofs.Refusing.{accepted}
use Rattle.pairs.proofs.AnswerLaws.{answer_width, answer_first, answer_second, answer_found}
use Rattle.comparison.proofs.compare.Goals as goal

pub returns-then-not-is_width : goal.returns-then-not-is_width
returns-then-not-is_width c = answer_width _ _ _ _ _ (sym c.is_width.ensures ∙ c.if-not-is_width.true)

pub returns-then-first-ne0 : goal.returns-then-first-ne0
returns-then-first-ne0 c =
    answer_first _ _ _ _ _ (sym c.is_width.ensures ∙ c.if-not-is_width.false) _ (c.number_of-first.ensures ∙ c.piece_refusal.ensures) c.if-first-ne0.true

pub returns-then-second-ne0 : goal.returns-then-second-ne0
returns-then-second-ne0 c =
    answer_second _ _ _ _ _ (sym c.is_width.ensures ∙ c.if-not-is_width.false) _ (sym (c.number_of-first.ensures ∙ c.piece_refusal.ensures) ∙ c.if-first-ne0.false)
    (c.number_of-second.ensures ∙ c.piece_refusal-2.ensures) c.if-second-ne0.true

pub invariant_of-x : goal.invariant_of-x
invariant_of-x c = record { within = (accepted 0 _ _ (sym (c.number_of-first.ensures ∙ c.piece_refusal.ensures) ∙ c.if-first-ne0.false)).within }

pub invariant_of-y : goal.invariant_of-y
invariant_of-y c = record { within = (accepted 0 _ _ (sym (c.number_of-second.ensures ∙ c.piece_refusal-2.ensures) ∙ c.if-second-ne0.false)).within }

pub compare_accepted-requires : goal.compare_accepted-requires
compare_accepted-requires c = sym c.is_width.ensures ∙ c.if-not-is_width.false

pub returns : goal.returns
returns c =
    c.compare_accepted.ensures
    ∙ answer_found _ _ _ _ _ (sym c.is_width.ensures ∙ c.if-not-is_width.false) (sym (c.number_of-first.ensures ∙ c.piece_refusal.ensures) ∙ c.if-first-ne0.false)
    (sym (c.number_of-second.ensures ∙ c.piece_refusal-2.ensures) ∙ c.if-second-ne0.false)
