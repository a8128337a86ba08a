-- The blocks passed are full and equal in both.
use Rattle.std.proofs.Common.{arith, refl, sym, ◌∙◌}
use Rattle.simd.specs.Basic.{family_of}
use Rattle.bits.proofs.Parts.{part_size}
use Rattle.comparison.proofs.SharedLaws.{one_byte, shared_none, shared_more}
use Rattle.comparison.proofs.shared.Goals as goal

pub loop-at-init : goal.loop-at-init
loop-at-init c = (omega arith, shared_none (family_of c.args.width))

pub same_block-requires : goal.same_block-requires
same_block-requires c =
    let size = c.block_bytes-size.result in
    let x = c.args.x in
    let y = c.args.y in
    part_size c.loop-at.at size x.bytes.now (omega (arith, c.loop-at-test.true, c.min-end.ensures, x.within)) ∙ sym (part_size c.loop-at.at size y.bytes.now (omega (arith, c.loop-at-test.true, c.min-end.ensures, y.within)))

pub returns-then-not-same_block : goal.returns-then-not-same_block
returns-then-not-same_block c = c.loop-at.invariant.1

pub loop-at-smaller : goal.loop-at-smaller
loop-at-smaller c = omega (arith, c.block_bytes-size.ensures, one_byte (family_of c.args.width))

pub loop-at-preserved : goal.loop-at-preserved
loop-at-preserved c =
    let inv = c.loop-at.invariant in (
      omega arith,
      shared_more (family_of c.args.width) c.block_bytes-size.ensures c.min-end.ensures c.loop-at-test.true
          inv.0 inv.1 refl refl c.same_block.ensures (c.if-not-same_block.false),
    )

pub returns : goal.returns
returns c = c.loop-at.invariant.1
