-- The message first, and then the room.
use mathlib.Core.Path.{refl, ◌∙◌}
use Rattle.std.proofs.lemmas.Result.{err_from_is_err_and}
use Rattle.refusals.proofs.Numbers.{refused_not_0}
use Rattle.index_parts.proofs.Refusals.{index_refused, index_room}
use Rattle.index_parts.proofs.index_refusal.Goals as goal

pub returns-in_err-message_refusal : goal.returns-in_err-message_refusal
returns-in_err-message_refusal c =
    let a = c.args in
    let p = err_from_is_err_and c.from_residual.result c.from_residual.ensures.1 in
    rw (p.1, p.2) (index_refused a.width a.message.now a.count _ c.in_err-message_refusal.ensures a.index_room a.room (refused_not_0 _ _ refl))

pub returns : goal.returns
returns c =
    let a = c.args in
    c.room_refusal.ensures
    ∙ index_room a.width a.message.now a.count 0 c.in_ok-message_refusal.ensures a.index_room a.room refl
