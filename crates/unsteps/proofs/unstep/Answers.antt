-- A is undone first, and D from it; C and D were B and C.
use Rattle.std.proofs.Common.{sym, ◌∙◌, rules}
use Rattle.words.specs.Columns.{from_columns}
use Rattle.unsteps.proofs.Columns.{unstep_columns}
use Rattle.unsteps.proofs.unstep.Goals as goal

pub returns : goal.returns
returns g c =
    let p = c.args in
    unstep_columns g.F.Rows.family p.i p.w.now (from_columns p.st) c.rotation.ensures.0 c.sum_rotation.ensures.0
    c.exchange.ensures c.unrotate_rows.ensures c.unmix_rows.ensures (search rules ∙ sym g.met.F.Rows.has_rows)
