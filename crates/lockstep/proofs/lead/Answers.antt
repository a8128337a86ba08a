-- The state goes into the block of the number.
use Rattle.std.proofs.Common.{◌≡◌, ◌+◌, ◌-◌, ap, ◌∙◌, length, arith}
use Rattle.simd.specs.Basic.{family_of}
use Rattle.simd.specs.Constants.{start}
use Rattle.bits.specs.Zero.{padded}
use Rattle.bits.proofs.Zeros.{length_padded}
use Rattle.pairs.specs.Pairs.{state_at}
use Rattle.pairs.specs.Messages.{bits_in}
use Rattle.lockstep.proofs.RunLaws.{none_less, one_less}
use Rattle.lockstep.proofs.lead.Goals as goal

pub loop-number-init : goal.loop-number-init
loop-number-init c =
    let all = c.block_count-number.ensures in
    let m = c.args.message in
    (omega (arith, all, c.requires.2), omega (arith, all), none_less c.args.width c.requires.0 m.bytes.now m.bits m.within all c.requires.1)

pub block_at-requires : goal.block_at-requires
block_at-requires c = (c.args.message.within, omega arith, omega (arith, c.loop-number.invariant.1))

pub absorb_block-requires : goal.absorb_block-requires
absorb_block-requires c = ap length c.loop-number.invariant.2 ∙ length_padded 32 _

pub loop-number-preserved : goal.loop-number-preserved
loop-number-preserved c =
    let m = c.args.message in
    let inv = c.loop-number.invariant in
    let here : c.loop-number.number - 1 + 1 ≡ c.loop-number.number = omega arith in (
      omega arith,
      omega (arith, inv.1),
      one_less c.args.width c.requires.0 m.bytes.now m.bits m.within c.loop-number.number (omega arith) inv.1 inv.2 (rw here at c.block_at.ensures)
          c.absorb_block.ensures,
    )

pub returns : goal.returns
returns c =
    let p = c.args in
    let last : c.loop-number.number ≡ p.rest = omega arith in
    c.loop-number.invariant.2 ∙ ap (λ k. padded 32 (state_at (family_of p.width) (start p.width) (bits_in p.message) k)) last
