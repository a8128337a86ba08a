-- Turn by turn, two places take a butterfly. The factors are entries of the table of roots, and no sum passes 16 bits.
use Rattle.std.proofs.Common.{◌+◌, arith}
use Rattle.laws.proofs.Stores.{stored_more, fresh_runs}
use Rattle.transform_stages.proofs.Reduction.{butterfly}
use Rattle.transform_stages.proofs.butterflies.Goals as goal

pub loop-k-preserved : goal.loop-k-preserved
loop-k-preserved c =
    let a = c.args in
    stored_more c.loop-k.invariant (fresh_runs a.j (a.j + a.l) a.n (omega arith) (omega arith) (omega arith))
    (butterfly _ _ _ _ (c.requires.by_index c.loop-k.k (omega arith)).0 c.product-b.ensures)
