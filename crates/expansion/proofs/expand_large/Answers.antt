-- The values of the transform, Z and its rows in the order P, one after another.
use Rattle.simd.specs.Basic.{large}
use Rattle.matrix.proofs.Expanded.{expanded_of}
use Rattle.expansion.proofs.Values.{as_values}
use Rattle.expansion.proofs.expand_large.Goals as goal

pub matrix_large-requires : goal.matrix_large-requires
matrix_large-requires c =
    let a = c.args in
    as_values 256 large a.last a.block.now c.large.ensures

pub returns : goal.returns
returns c =
    let a = c.args in
    expanded_of large a.last a.block.now c.large.ensures c.matrix_large.ensures c.permuted.ensures
