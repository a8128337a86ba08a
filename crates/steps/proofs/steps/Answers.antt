use Rattle.std.proofs.Common.{[], get_or, refl, ap, ◌∙◌, add-one}
use Rattle.simd.specs.Steps.{step, steps}
use Rattle.words.specs.Columns.{from_columns}
use Rattle.steps.proofs.steps.Goals as goal

pub loop-i-init : goal.loop-i-init
unfolding steps
loop-i-init g c = refl

pub loop-i-preserved : goal.loop-i-preserved
unfolding steps
loop-i-preserved g c =
    let i = c.loop-i.i in
    rw add-one (ap from_columns c.step-s.ensures ∙ ap (step g.F.Rows.family i (get_or c.args.w.now i [])) c.loop-i.invariant)
