-- The sum of the definition, byte by byte.
use Rattle.std.proofs.Common.{◌*◌, get_or, ap, add-zero, arith}
use Rattle.simd.specs.Basic.{word_at, sum}
use Rattle.compression.proofs.bytes.word.Goals as goal

pub returns : goal.returns
unfolding word_at sum
returns c =
    let p = c.args in
    let start = ap (λ n. get_or p.bytes.now n 0) (add-zero (4 * p.i)) in
    omega (arith, start, c.from_le_bytes.ensures)
