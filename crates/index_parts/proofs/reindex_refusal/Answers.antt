-- The message first, then the old index and the block's number, and then the room.
use mathlib.Core.Path.{refl, ◌∙◌}
use Rattle.std.proofs.lemmas.Result.{err_from_is_err_and}
use Rattle.refusals.proofs.Numbers.{refused_not_0}
use Rattle.index_parts.proofs.Refusals.{reindex_refused, reindex_unfit, reindex_room}
use Rattle.index_parts.proofs.reindex_refusal.Goals as goal

pub returns-in_err-message_refusal : goal.returns-in_err-message_refusal
returns-in_err-message_refusal c =
    let a = c.args in
    let p = err_from_is_err_and c.from_residual.result c.from_residual.ensures.1 in
    rw (p.1, p.2)
    (reindex_refused a.width a.message.now a.count _ c.in_err-message_refusal.ensures a.index_room a.room a.old.now a.block
    (refused_not_0 _ _ refl))

pub returns-in_err-fit_refusal : goal.returns-in_err-fit_refusal
returns-in_err-fit_refusal c =
    let a = c.args in
    let p = err_from_is_err_and c.from_residual-in_err-fit_refusal.result c.from_residual-in_err-fit_refusal.ensures.1 in
    rw (p.1, p.2)
    (reindex_unfit a.width a.message.now a.count 0 c.in_ok-message_refusal.ensures a.index_room a.room a.old.now a.block refl
    _ c.in_err-fit_refusal.ensures (refused_not_0 _ _ refl))

pub returns : goal.returns
returns c =
    let a = c.args in
    c.room_refusal.ensures
    ∙ reindex_room a.width a.message.now a.count 0 c.in_ok-message_refusal.ensures a.index_room a.room a.old.now a.block refl
    0 c.in_ok-fit_refusal.ensures refl
