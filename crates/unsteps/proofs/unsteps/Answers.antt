-- Step by step, from the last: steps 0 to i - 1 are left.
use Rattle.std.proofs.Common.{◌≡◌, ◌-◌, suc, ap, ◌∙◌, arith}
use Rattle.words.specs.Columns.{from_columns}
use Rattle.unsteps.specs.Unstep.{unsteps}
use Rattle.unsteps.proofs.Columns.{unsteps_more}
use Rattle.unsteps.proofs.unsteps.Goals as goal

pub loop-i-preserved : goal.loop-i-preserved
loop-i-preserved g c =
    let f = g.F.Rows.family in
    let w = c.args.w.now in
    let i = c.loop-i.i in
    let s = from_columns c.loop-i.s in
    let one : suc (i - 1) ≡ i = omega arith in
    unsteps_more f w (i - 1) s (from_columns c.unstep-s.result) c.unstep-s.ensures (ap (λ n. unsteps f w n s) one ∙ c.loop-i.invariant)

pub returns : goal.returns
unfolding unsteps
returns g c =
    let none : c.loop-i.i ≡ 0 = omega arith in
    rw none at c.loop-i.invariant
