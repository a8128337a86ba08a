-- The tests in turn: the width, the message as a piece after no bits, and the room.
use mathlib.Core.Path.{refl, sym, ◌∙◌}
use native.Mathlib.Omega.{arith}
use Rattle.std.proofs.lemmas.Result.{err_from_is_err_and}
use Rattle.refusals.proofs.Numbers.{refused_not_0}
use Rattle.digest.proofs.Whole.{unknown_width, message_refused, room_short, room_enough}
use Rattle.digest.proofs.refusal.Goals as goal

pub returns-then-not-is_width : goal.returns-then-not-is_width
returns-then-not-is_width c =
    let a = c.args in
    unknown_width a.width a.message.now a.count a.room (sym c.is_width.ensures ∙ c.if-not-is_width.true)

pub returns-in_err-piece_refusal : goal.returns-in_err-piece_refusal
returns-in_err-piece_refusal c =
    let a = c.args in
    let p = err_from_is_err_and c.from_residual.result c.from_residual.ensures.1 in
    rw (p.1, p.2) (message_refused a.width a.message.now a.count a.room (sym c.is_width.ensures ∙ c.if-not-is_width.false)
    _ c.in_err-piece_refusal.ensures (refused_not_0 _ _ refl))

pub returns-then-room-digest_bytes : goal.returns-then-room-digest_bytes
returns-then-room-digest_bytes c =
    let a = c.args in
    room_short a.width a.message.now a.count a.room (sym c.is_width.ensures ∙ c.if-not-is_width.false) 0 c.in_ok-piece_refusal.ensures refl
    (omega (arith, c.if-room-digest_bytes.true, c.digest_bytes.ensures))

pub returns : goal.returns
returns c =
    let a = c.args in
    room_enough a.width a.message.now a.count a.room (sym c.is_width.ensures ∙ c.if-not-is_width.false) 0 c.in_ok-piece_refusal.ensures refl
    (omega (arith, c.if-room-digest_bytes.false, c.digest_bytes.ensures))
