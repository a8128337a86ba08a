-- A block has at most 128 bytes, so that the bytes of few blocks fit.
use mathlib.Core.Path.{ap}
use Prim.Native.Nat.{◌*◌, ◌≤◌}
use native.Mathlib.Nat.{mul-le-mul}
use native.Mathlib.Omega.{arith}
use Rattle.simd.specs.Basic.{family_of}
use Rattle.tail.proofs.Sizes.{bytes_within}
use Rattle.advance.proofs.bytes_of_blocks.Goals as goal

pub overflow_mul-result : goal.overflow_mul-result
overflow_mul-result c =
    let blocks = c.args.blocks in
    let size : c.block_bytes.result ≤ 128 = omega (arith, c.block_bytes.ensures, bytes_within (family_of c.args.width)) in
    let same : blocks ≤ blocks = omega arith in
    let most : c.block_bytes.result * blocks ≤ 128 * blocks = mul-le-mul size same in
    omega (arith, most, c.requires)

pub returns : goal.returns
returns c = ap (λ n. n * c.args.blocks) c.block_bytes.ensures
