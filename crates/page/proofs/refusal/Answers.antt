-- The tests in turn: the width, the digest's length, the number, the room.
use mathlib.Core.Path.{sym, ◌∙◌}
use native.Mathlib.Omega.{arith}
use Rattle.page.proofs.Refusals.{unknown_width, other_length, number_above, room_short, room_enough}
use Rattle.page.proofs.refusal.Goals as goal

pub returns-then-not-is_width : goal.returns-then-not-is_width
returns-then-not-is_width c =
    let a = c.args in
    unknown_width a.number a.width a.digest.now a.room (sym c.is_width.ensures ∙ c.if-not-is_width.true)

pub returns-then-digest-bytes : goal.returns-then-digest-bytes
returns-then-digest-bytes c =
    let a = c.args in
    other_length a.number a.width a.digest.now a.room (sym c.is_width.ensures ∙ c.if-not-is_width.false)
    (λ same. omega (arith, same, c.if-digest-bytes.true, c.digest_bytes-bytes.ensures))

pub returns-then-number-gt999999 : goal.returns-then-number-gt999999
returns-then-number-gt999999 c =
    let a = c.args in
    number_above a.number a.width a.digest.now a.room (sym c.is_width.ensures ∙ c.if-not-is_width.false)
    (omega (arith, c.if-digest-bytes.false, c.digest_bytes-bytes.ensures)) (omega (arith, c.if-number-gt999999.true))

pub returns-then-room-lines : goal.returns-then-room-lines
returns-then-room-lines c =
    let a = c.args in
    room_short a.number a.width a.digest.now a.room (sym c.is_width.ensures ∙ c.if-not-is_width.false)
    (omega (arith, c.if-digest-bytes.false, c.digest_bytes-bytes.ensures)) (omega (arith, c.if-number-gt999999.false))
    (omega (arith, c.if-room-lines.true, c.entry_bytes-lines.ensures))

pub returns : goal.returns
returns c =
    let a = c.args in
    room_enough a.number a.width a.digest.now a.room (sym c.is_width.ensures ∙ c.if-not-is_width.false)
    (omega (arith, c.if-digest-bytes.false, c.digest_bytes-bytes.ensures)) (omega (arith, c.if-number-gt999999.false))
    (omega (arith, c.if-room-lines.false, c.entry_bytes-lines.ensures))
