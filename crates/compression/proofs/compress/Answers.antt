-- The parts of the compression, each by its contract.
use Rattle.compression.proofs.Laws.{compressed}
use Rattle.compression.proofs.compress.Goals as goal

pub returns : goal.returns
returns g c =
    let p = c.args in
    compressed g.F.Rows.family p.last p.state.now p.block.now c.split-h.ensures c.mixed.ensures
    c.split-start.ensures c.expand-w.ensures c.all_steps.ensures c.flat-new.ensures
