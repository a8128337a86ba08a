-- The words of Z, cut into rows.
use Rattle.simd.specs.Basic.{large}
use lib.ListN.{get_or}
use Rattle.matrix.proofs.Expanded.{matrix_of}
use Rattle.matrix.proofs.matrix_large.Goals as goal

pub returns : goal.returns
returns c =
    let y = c.args.y.now in
    matrix_of large (λ k. get_or y k 0) c.assemble.ensures c.in_rows.ensures
