use Rattle.std.proofs.Common.{refl}
use Rattle.simd.specs.Hash.{chain}
use Rattle.iteration.proofs.BlockLaws.{one_more}
use Rattle.iteration.proofs.compress_blocks.Goals as goal

pub loop-k-init : goal.loop-k-init
unfolding chain
loop-k-init g c = refl

pub loop-k-preserved : goal.loop-k-preserved
loop-k-preserved g c = one_more g.F.Rows.family _ _ _ c.compress_block.ensures c.loop-k.invariant
