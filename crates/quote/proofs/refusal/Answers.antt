-- The tests in turn: the width, the digest's length, the room.
use mathlib.Core.Path.{sym, ◌∙◌}
use native.Mathlib.Omega.{arith}
use Rattle.quote.proofs.Refusals.{unknown_width, other_length, room_short, room_enough}
use Rattle.quote.proofs.refusal.Goals as goal

pub returns-then-not-is_width : goal.returns-then-not-is_width
returns-then-not-is_width c =
    let a = c.args in
    unknown_width a.width a.digest.now a.room (sym c.is_width.ensures ∙ c.if-not-is_width.true)

pub returns-then-digest-bytes : goal.returns-then-digest-bytes
returns-then-digest-bytes c =
    let a = c.args in
    other_length a.width a.digest.now a.room (sym c.is_width.ensures ∙ c.if-not-is_width.false)
    (λ same. omega (arith, same, c.if-digest-bytes.true, c.digest_bytes-bytes.ensures))

pub returns-then-room-lt18 : goal.returns-then-room-lt18
returns-then-room-lt18 c =
    let a = c.args in
    room_short a.width a.digest.now a.room (sym c.is_width.ensures ∙ c.if-not-is_width.false)
    (omega (arith, c.if-digest-bytes.false, c.digest_bytes-bytes.ensures)) c.if-room-lt18.true

pub returns : goal.returns
returns c =
    let a = c.args in
    room_enough a.width a.digest.now a.room (sym c.is_width.ensures ∙ c.if-not-is_width.false)
    (omega (arith, c.if-digest-bytes.false, c.digest_bytes-bytes.ensures)) c.if-room-lt18.false
