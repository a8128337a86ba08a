-- A block has at most 128 bytes, so nothing wraps.
use mathlib.Core.Path.{ap}
use Prim.Native.Nat.{ℕ, ◌+◌, ◌*◌}
use native.Mathlib.Omega.{arith}
use Rattle.simd.specs.Basic.{family_of}
use Rattle.tail.proofs.Sizes.{bytes_within}
use Rattle.hash_parts.proofs.with_head.Goals as goal

pub overflow_mul-result : goal.overflow_mul-result
overflow_mul-result c = omega (arith, c.block_bytes.ensures, bytes_within (family_of c.args.width))

pub overflow_add-result : goal.overflow_add-result
overflow_add-result c = omega (arith, c.block_bytes.ensures, bytes_within (family_of c.args.width))

pub returns : goal.returns
returns c = ap (λ (n : ℕ). c.args.head + 2 * n) c.block_bytes.ensures
