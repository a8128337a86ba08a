-- One step, by its number, is the step of the definition.
use Rattle.std.proofs.Common.{◌∙◌}
use Rattle.words.proofs.Columns.{stepped_step}
use Rattle.steps.proofs.step.Goals as goal

pub returns : goal.returns
returns g c =
    let p = c.args in
    c.step.ensures ∙ stepped_step g.F.Rows.family p.i p.w p.st
