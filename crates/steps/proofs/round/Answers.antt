-- Eight steps, one after the other, are a run.
use Rattle.words.proofs.Runs.{eight}
use Rattle.steps.proofs.round.Goals as goal

pub returns : goal.returns
returns g c =
    let p = c.args in
    eight g.F.Rows.family p.w.now p.at p.st c.step-s1.ensures c.step-s2.ensures c.step-s3.ensures c.step-s4.ensures
    c.step-s5.ensures c.step-s6.ensures c.step-s7.ensures c.step.ensures
