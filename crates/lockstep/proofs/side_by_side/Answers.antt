-- The states go into the blocks of the number, and of the numbers above it the smallest at which the pairs differ is kept.
use Rattle.std.proofs.Common.{◌≡◌, ◌+◌, ◌-◌, refl, arith}
use Rattle.simd.specs.Basic.{family_of}
use Rattle.lockstep.proofs.RunLaws.{few, fewer, search_none, search_hit, search_miss, search_all}
use Rattle.lockstep.proofs.side_by_side.Goals as goal

pub overflow_add-met : goal.overflow_add-met
overflow_add-met c = omega (arith, few (family_of c.args.width) c.args.a.bits, c.requires.0.first)

pub loop-number-init : goal.loop-number-init
loop-number-init c = (c.requires.1, search_none _ _)

pub turn-requires : goal.turn-requires
turn-requires c =
    let here : c.loop-number.number - 1 + 1 ≡ c.loop-number.number = omega arith in
    (omega arith, fewer c.requires.0 (omega arith), rw here c.loop-number.invariant.0)

pub loop-number-preserved-then-turn : goal.loop-number-preserved-then-turn
loop-number-preserved-then-turn c =
    let here : c.loop-number.number - 1 + 1 ≡ c.loop-number.number = omega arith in
    let turned = rw here at c.turn.ensures in
    (turned.0, search_hit _ _ (omega arith) (omega arith) c.loop-number.invariant.1 turned.1 c.if-turn.true here)

pub loop-number-preserved : goal.loop-number-preserved
loop-number-preserved c =
    let here : c.loop-number.number - 1 + 1 ≡ c.loop-number.number = omega arith in
    let turned = rw here at c.turn.ensures in
    (turned.0, search_miss _ _ (omega arith) (omega arith) c.loop-number.invariant.1 turned.1 c.if-turn.false refl)

pub returns : goal.returns
returns c =
    let none : c.loop-number.number ≡ 0 = omega arith in
    (rw none at c.loop-number.invariant.0, search_all _ _ none c.loop-number.invariant.1)
