-- The bytes written are those of the state that the steps reach from the bytes read.
use Rattle.std.proofs.Common.{◌∙◌, ℕ}
use Rattle.std.proofs.lemmas.List.{length-replicate}
use Rattle.block_steps.proofs.States.{bytes_moved}
use Rattle.block_steps.proofs.run.Goals as goal

pub returns : goal.returns
returns g c =
    let a = c.args in
    let read = rw (length-replicate {A = ℕ} g.row.W 0, ← g.met.F.Family.has_words) at c.read.ensures in
    c.write.ensures
    ∙ bytes_moved a.back g.F.Rows.family a.last a.state.now a.block.now c.turned.result
    read c.expand-w.ensures c.split-start.ensures c.turned.ensures c.flat-y.ensures
