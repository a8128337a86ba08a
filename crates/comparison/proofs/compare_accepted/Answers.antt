-- The three tests are those of the definition, in its order.
use Rattle.std.proofs.Common.{sym, ◌∙◌}
use Rattle.pairs.proofs.AnswerLaws.{compared_same, compared_meet, compared_apart}
use Rattle.comparison.proofs.compare_accepted.Goals as goal

pub returns-then-same_message : goal.returns-then-same_message
returns-then-same_message c = compared_same c.args.width _ _ (sym c.same_message.ensures ∙ c.if-same_message.true)

pub returns-then-meet : goal.returns-then-meet
returns-then-meet c =
    compared_meet c.args.width _ _ (sym c.same_message.ensures ∙ c.if-same_message.false) (sym c.meet.ensures ∙ c.if-meet.true) c.meeting-number.ensures

pub returns : goal.returns
returns c =
    compared_apart c.args.width _ _ (sym c.same_message.ensures ∙ c.if-same_message.false) (sym c.meet.ensures ∙ c.if-meet.false)
