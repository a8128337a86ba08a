-- The bits as far as the message goes, or the block, are the block.
use mathlib.Core.Path.{refl}
use Prim.Native.Nat.{◌*◌, ◌-◌, ◌<◌}
use native.Mathlib.Omega.{arith}
use Rattle.simd.specs.Basic.{family_of}
use Rattle.bits.specs.Zero.{all_zero}
use Rattle.lockstep.proofs.BlockLaws.{size_within, at_within, block_filled}
use Rattle.lockstep.proofs.block_at.Goals as goal

within : (c : goal.After-block_count) → let p = c.args in
    8 * (c.block_bytes-size.result * (c.block_count.result - p.number)) < p.count
within c =
    let p = c.args in
    let pre = c.requires in
    at_within (family_of p.width) p.count p.number pre.1 pre.2 c.block_bytes-size.ensures c.block_count.ensures

pub overflow_sub-at : goal.overflow_sub-at
overflow_sub-at c = omega (arith, c.requires.2, c.block_count.ensures)

pub overflow_mul-at : goal.overflow_mul-at
overflow_mul-at c = record { fits = omega (arith, within c) }

pub overflow_mul-size : goal.overflow_mul-size
overflow_mul-size c =
    record { fits = omega (arith, size_within (family_of c.args.width) c.block_bytes-size.ensures) }

pub overflow_mul-at-2 : goal.overflow_mul-at-2
overflow_mul-at-2 c = record { fits = omega (arith, within c) }

pub overflow_sub-count : goal.overflow_sub-count
overflow_sub-count c = omega (arith, within c)

pub fill_bits-requires : goal.fill_bits-requires
unfolding all_zero
fill_bits-requires c =
    let p = c.args in
    let size = size_within (family_of p.width) c.block_bytes-size.ensures in
    let at = at_within (family_of p.width) p.count p.number c.requires.1 c.requires.2 c.block_bytes-size.ensures c.block_count.ensures in
    let end = c.min-end.ensures in
    (omega (arith, at, c.requires.0, end), omega (arith, size, end), refl)

pub returns : goal.returns
returns c =
    let p = c.args in
    block_filled (family_of p.width) p.bytes.now p.count p.number (λ j. (c.shared_slice_known-1.given j).fits)
    c.requires.0 c.requires.1 c.requires.2 c.block_bytes-size.ensures c.block_count.ensures c.min-end.ensures
    c.fill_bits.ensures
