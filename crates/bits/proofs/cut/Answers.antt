-- The byte that the place stands in is shifted right and back, so that its last bits are 0; the one behind it, if there is one, becomes 0.
use mathlib.Core.Path.{◌≡◌, ap}
use Prim.Native.Nat.{ℕ, ◌*◌, ◌-◌, ◌/◌, ◌%◌, ◌^◌, ◌<◌}
use native.Mathlib.Nat.{div-mul-le_self}
use native.Mathlib.Omega.{arith}
use lib.ListN.{get_or, length-set}
use Rattle.bits.proofs.Front.{cut_inside, cut_at_end}
use Rattle.bits.proofs.cut.Goals as goal

kept : (c : goal.After-scale_of) → let a = c.args in
    c.from.result / 2 ^ (8 - a.from % 8) * c.scale_of.result
    ≡ get_or a.bytes.now (a.from / 8) 0 / 2 ^ (8 - a.from % 8) * 2 ^ (8 - a.from % 8)
kept c = let a = c.args in λ i. c.from.ensures i / 2 ^ (8 - a.from % 8) * c.scale_of.ensures.0 i

small : (c : goal.After-scale_of) → c.from.result / 2 ^ (8 - c.args.from % 8) * c.scale_of.result < 256
small c =
    let a = c.args in
    let less = div-mul-le_self c.from.result (2 ^ (8 - a.from % 8)) in
    let same = ap (λ (n : ℕ). c.from.result / 2 ^ (8 - a.from % 8) * n) c.scale_of.ensures.0 in
    omega (arith, less, same, c.from.ensures)

pub overflow_mul-bytes : goal.overflow_mul-bytes
overflow_mul-bytes c = record { fits = omega (arith, small c) }

pub overflow_cast-bytes : goal.overflow_cast-bytes
overflow_cast-bytes c = record { fits = omega (arith, small c) }

pub returns-then-at-bytes : goal.returns-then-at-bytes
returns-then-at-bytes c =
    let a = c.args in
    cut_inside a.bytes.now a.from (λ j. (c.slice_known-2-1.given j).fits) c.requires.0 c.requires.1 _ (kept c.before)
    (omega (arith, c.if-at-bytes.true, length-set a.bytes.now (a.from / 8) (c.from.result / 2 ^ (8 - a.from % 8) * c.scale_of.result)))

pub returns-else-at-bytes : goal.returns-else-at-bytes
returns-else-at-bytes c =
    let a = c.args in
    cut_at_end a.bytes.now a.from (λ j. (c.slice_known-2-1.given j).fits) c.requires.0 c.requires.1 _ (kept c.before)
    (λ inside.
    omega (arith, inside, c.if-at-bytes.false, length-set a.bytes.now (a.from / 8) (c.from.result / 2 ^ (8 - a.from % 8) * c.scale_of.result)))
