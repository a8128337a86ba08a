-- The four rounds are the 32 steps, and the last steps follow them.
use Rattle.std.proofs.Common.{ap, ◌∙◌}
use Rattle.words.specs.Columns.{from_columns, columns}
use Rattle.words.specs.Runs.{last_steps}
use Rattle.words.proofs.Runs.{rounds}
use Rattle.steps.proofs.all_steps.Goals as goal

pub returns : goal.returns
returns g c =
    let p = c.args in
    let f = g.F.Rows.family in
    let ran = rounds f p.w.now p.st c.round-s1.ensures c.round-s2.ensures c.round-s3.ensures c.round-s4.ensures in
    c.last_steps.ensures ∙ ap (λ l. columns (last_steps f (from_columns p.old.now) (from_columns l))) ran
