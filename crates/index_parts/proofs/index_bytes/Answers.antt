-- The definition; the states have fewer bytes than the message, so nothing wraps.
use Prim.Native.Nat.{◌+◌, ◌*◌}
use native.Mathlib.Omega.{arith}
use borrow.Author.Rules.{rules}
use Rattle.simd.specs.Basic.{family_of}
use Rattle.form.specs.Head.{head_bytes}
use Rattle.index_parts.proofs.Sizes.{states_small}
use Rattle.index_parts.proofs.index_bytes.Goals as goal

pub overflow_mul-result : goal.overflow_mul-result
overflow_mul-result c = omega (arith, states_small (family_of c.args.width) c.block_bytes.ensures c.kept.ensures)

pub overflow_add-result : goal.overflow_add-result
overflow_add-result c = omega (arith, states_small (family_of c.args.width) c.block_bytes.ensures c.kept.ensures)

pub returns : goal.returns
returns c = λ i. head_bytes + c.block_bytes.ensures i * c.kept.ensures i
