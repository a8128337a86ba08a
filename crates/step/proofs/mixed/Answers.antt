-- New A is made from new B by the other numbers of step i; B and C become C and D.
use Rattle.words.proofs.Columns.{stepped_parts}
use Rattle.step.proofs.mixed.Goals as goal

pub returns : goal.returns
returns g c =
    let p = c.args in
    stepped_parts g.F.Rows.family p.i p.w.now p.st c.requires c.sum_rotation.ensures.0 c.exchange.ensures c.new_a-a.ensures
