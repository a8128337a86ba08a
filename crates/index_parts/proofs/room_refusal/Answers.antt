-- The index first, and then the digest.
use native.Mathlib.Omega.{arith}
use Rattle.index_parts.proofs.Refusals.{index_short, digest_short, room_enough}
use Rattle.index_parts.proofs.room_refusal.Goals as goal

pub returns-then-index_room-index_bytes : goal.returns-then-index_room-index_bytes
returns-then-index_room-index_bytes c =
    let a = c.args in
    index_short a.width a.count a.index_room a.room (omega (arith, c.if-index_room-index_bytes.true, c.index_bytes.ensures))

pub returns-then-room-digest_bytes : goal.returns-then-room-digest_bytes
returns-then-room-digest_bytes c =
    let a = c.args in
    digest_short a.width a.count a.index_room a.room (omega (arith, c.if-index_room-index_bytes.false, c.index_bytes.ensures)) (omega (arith, c.if-room-digest_bytes.true, c.digest_bytes.ensures))

pub returns : goal.returns
returns c =
    let a = c.args in
    room_enough a.width a.count a.index_room a.room (omega (arith, c.if-index_room-index_bytes.false, c.index_bytes.ensures)) (omega (arith, c.if-room-digest_bytes.false, c.digest_bytes.ensures))
