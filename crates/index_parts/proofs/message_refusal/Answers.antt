-- The width first, and then the message as a piece after no bits.
use mathlib.Core.Path.{sym, ◌∙◌}
use borrow.Author.Rules.{rules}
use Rattle.index_parts.proofs.Refusals.{known_width, unknown_width}
use Rattle.index_parts.proofs.message_refusal.Goals as goal

pub returns-then-is_width : goal.returns-then-is_width
returns-then-is_width c =
    let a = c.args in
    c.piece_refusal.ensures ∙ known_width a.width a.message.now a.count (sym c.is_width.ensures ∙ c.if-is_width.true)

pub returns-else-is_width : goal.returns-else-is_width
returns-else-is_width c =
    let a = c.args in
    unknown_width a.width a.message.now a.count (sym c.is_width.ensures ∙ c.if-is_width.false)
