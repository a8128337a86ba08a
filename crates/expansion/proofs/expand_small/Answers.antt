-- The values of the transform, Z and its rows in the order P, one after another.
use Rattle.simd.specs.Basic.{small}
use Rattle.matrix.proofs.Expanded.{expanded_of}
use Rattle.expansion.proofs.Values.{as_values}
use Rattle.expansion.proofs.expand_small.Goals as goal

pub matrix_small-requires : goal.matrix_small-requires
matrix_small-requires c =
    let a = c.args in
    as_values 128 small a.last a.block.now c.small.ensures

pub returns : goal.returns
returns c =
    let a = c.args in
    expanded_of small a.last a.block.now c.small.ensures c.matrix_small.ensures c.permuted.ensures
