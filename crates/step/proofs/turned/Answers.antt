-- The rotation is that of step i.
use Rattle.std.proofs.Common.{[], get_or, ap, ◌∙◌}
use Rattle.words.specs.Columns.{new_b}
use Rattle.step.proofs.turned.Goals as goal

pub returns : goal.returns
returns g c = c.rotated.ensures ∙ ap (λ r. new_b g.F.Rows.family r (get_or c.args.st 0 [])) c.rotation-r.ensures.0
