-- The first columns and the digits in turn: on one line where there are at most 32 bytes, else on two.
use Prim.Native.Nat.{◌-◌, ◌<◌}
use native.Mathlib.Omega.{arith}
use lib.ListN.{length, drop, length-take}
use Rattle.text.proofs.Words.{length_hex}
use Rattle.ledger.proofs.Columns.{one_at_least}
use Rattle.page_lines.proofs.Accepted.{accepted}
use Rattle.page_lines.proofs.InTurn.{one_line, two_rooms, two_lines}
use Rattle.page_lines.proofs.print.Goals as goal

pub front-at-requires : goal.front-at-requires
front-at-requires c =
    let a = c.args in
    let good = accepted a.number a.width a.digest.now (length a.text.now) c.requires in
    (good.facts.number_short, good.facts.width_short, omega (arith, good.enough, one_at_least a.width))

pub digits-requires : goal.digits-requires
digits-requires c =
    let a = c.args in
    let good = accepted a.number a.width a.digest.now (length a.text.now) c.requires in
    (omega arith, omega (arith, good.enough, one_at_least a.width, c.front-at.ensures.1))

pub slice_bounds-digits-end : goal.slice_bounds-digits-end
slice_bounds-digits-end c = omega (arith, length-take 32 c.args.digest.now)

pub digits-second-requires : goal.digits-second-requires
digits-second-requires c =
    let a = c.args in
    let good = accepted a.number a.width a.digest.now (length a.text.now) c.requires in
    (omega (arith, length-take 32 a.digest.now), omega (arith, good.enough, one_at_least a.width, c.front-at.ensures.1))

pub fill-rest-requires : goal.fill-rest-requires
fill-rest-requires c =
    let a = c.args in
    let good = accepted a.number a.width a.digest.now (length a.text.now) c.requires in
    let room =
    two_rooms a.text.now c.front-at.new.text a.number a.width c.front-at.result a.digest.now good
    c.front-at.ensures.0 c.front-at.ensures.1 (omega arith) in
    omega (arith, room, c.digits-second.ensures.1, c.front-at.ensures.1)

pub digits-requires-2 : goal.digits-requires-2
digits-requires-2 c =
    let a = c.args in
    let bytes = a.digest.now in
    let good = accepted a.number a.width a.digest.now (length a.text.now) c.requires in
    let room =
    two_rooms a.text.now c.front-at.new.text a.number a.width c.front-at.result a.digest.now good
    c.front-at.ensures.0 c.front-at.ensures.1 (omega arith) in (
      omega (arith, length-take (length bytes - 32) (drop 32 bytes), length_hex bytes, good.facts.two_lines),
      omega (arith, room, c.digits-second.ensures.1, c.front-at.ensures.1, c.fill-rest.ensures.1),
    )

pub returns-then-digest-le32 : goal.returns-then-digest-le32
returns-then-digest-le32 c =
    let a = c.args in
    let good = accepted a.number a.width a.digest.now (length a.text.now) c.requires in
    one_line a.text.now c.front-at.new.text a.number a.width c.front-at.result a.digest.now good
    c.front-at.ensures.0 c.front-at.ensures.1 c.digits.new.text (omega arith) c.digits.ensures.0

pub returns : goal.returns
returns c =
    let a = c.args in
    let good = accepted a.number a.width a.digest.now (length a.text.now) c.requires in
    let many : 32 < length a.digest.now = omega arith in
    two_lines a.text.now c.front-at.new.text a.number a.width c.front-at.result a.digest.now good
    c.front-at.ensures.0 c.front-at.ensures.1 c.digits-second.new.text c.fill-rest.new.text c.digits-2.new.text c.digits-second.result c.fill-rest.result
    many c.digits-second.ensures.0 c.digits-second.ensures.1 c.fill-rest.ensures.0 c.fill-rest.ensures.1 c.digits-2.ensures.0
