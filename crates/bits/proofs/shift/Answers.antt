-- The invariant: the bytes before i are written, and `held` is the carry that goes into byte i.
use mathlib.Core.Path.{◌≡◌, ap, ◌∙◌}
use native.Mathlib.Omega.{arith}
use lib.ListN.{length}
use Rattle.bits.specs.Shift.{carry_at, shifted}
use Rattle.bits.proofs.Filling.{filled_all}
use Rattle.bits.proofs.Stream.{shifting_none, shifting_more}
use Rattle.bits.proofs.shift.Goals as goal

pub loop-i-init : goal.loop-i-init
loop-i-init c =
    let a = c.args in
    shifting_none a.scale a.carry a.src.now a.dst.now c.from-held.result c.from-held.ensures (omega arith)

pub loop-i-preserved : goal.loop-i-preserved
loop-i-preserved c =
    let l = c.loop-i in
    let a = c.args in
    shifting_more a.scale a.carry a.src.now (length a.dst.now) l.i l.dst l.held c.from.result l.invariant (omega arith)
    c.from.ensures

pub returns : goal.returns
returns c =
    let l = c.loop-i in
    let a = c.args in
    let n = length a.dst.now in
    let end : l.i ≡ n = omega arith in (
      filled_all n l.i (shifted a.scale a.carry a.src.now) l.dst l.invariant.filled (omega arith),
      l.invariant.carried ∙ ap (carry_at a.scale a.carry a.src.now) end,
    )
