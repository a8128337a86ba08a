-- The bytes of the block are one block.
use Rattle.std.proofs.Common.{arith}
use Rattle.simd.specs.Basic.{family_of}
use Rattle.lockstep.proofs.BlockLaws.{size_within, absorbed_once}
use Rattle.lockstep.proofs.absorb_block.Goals as goal

pub returns : goal.returns
returns c =
    let size = size_within (family_of c.args.width) c.block_bytes.ensures in
    absorbed_once (family_of c.args.width) _ c.args.block _ c.block_bytes.ensures (omega (arith, size)) c.absorb.ensures
