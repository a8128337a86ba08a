-- Steps 32 to 35, with the old columns as words.
use Rattle.words.proofs.Runs.{last_four}
use Rattle.steps.proofs.last_steps.Goals as goal

pub returns : goal.returns
returns g c =
    let p = c.args in
    last_four g.F.Rows.family p.old.now p.st c.step-s1.ensures c.step-s2.ensures c.step-s3.ensures c.step.ensures
