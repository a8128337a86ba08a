-- The skipped blocks are some of the message's.
use Prim.Native.Nat.{◌*◌, ◌≤◌}
use native.Mathlib.Omega.{arith}
use Rattle.simd.specs.Basic.{family_of}
use Rattle.simd.specs.Message.{message_blocks}
use Rattle.simd.specs.Hash.{compressions}
use Rattle.kept_counts.proofs.Counts.{full_some, blocks_fit}
use Rattle.kept_counts.proofs.compressed.Goals as goal

skipped : (c : goal.After-message_blocks) → let a = c.args in 16 * a.i ≤ message_blocks (family_of a.width) a.count
skipped c = let a = c.args in omega (arith, c.requires, full_some (family_of a.width) a.count)

pub overflow_mul-result : goal.overflow_mul-result
overflow_mul-result c = let a = c.args in omega (arith, skipped c, blocks_fit (family_of a.width) a.count)

pub overflow_sub-result : goal.overflow_sub-result
overflow_sub-result c = omega (arith, skipped c, c.message_blocks.ensures)

pub overflow_add-result : goal.overflow_add-result
overflow_add-result c = let a = c.args in omega (arith, c.message_blocks.ensures, blocks_fit (family_of a.width) a.count)

pub returns : goal.returns
unfolding compressions
returns c = omega (arith, skipped c, c.message_blocks.ensures)
