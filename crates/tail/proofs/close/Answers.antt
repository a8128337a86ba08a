-- The tail's bits are the last block, if there are any.
use native.Mathlib.Omega.{arith}
use Rattle.simd.specs.Basic.{family_of}
use Rattle.tail.proofs.Sizes.{used_within}
use Rattle.tail.proofs.Closing.{one_compression, two_compressions}
use Rattle.tail.proofs.close.Goals as goal

pub conclude-requires : goal.conclude-requires
conclude-requires c =
    (c.requires.0, omega (arith, c.requires.1, c.used_bits-used.ensures, used_within (family_of c.args.width) c.args.bits))

pub returns-then-used-eq0 : goal.returns-then-used-eq0
returns-then-used-eq0 c =
    let a = c.args in
    let closed = rw c.used_bits-used.ensures at c.conclude.ensures in
    (closed, one_compression (family_of a.width) a.bits c.used_bits-used.result c.used_bits-used.ensures c.if-used-eq0.true)

pub returns-else-used-eq0 : goal.returns-else-used-eq0
returns-else-used-eq0 c =
    let a = c.args in
    let closed = rw c.used_bits-used.ensures at c.conclude.ensures in
    (closed, two_compressions (family_of a.width) a.bits c.used_bits-used.result c.used_bits-used.ensures c.if-used-eq0.false)
