-- The first bytes of the source complete the tail's block, and the rest goes on behind the carry that they leave.
use mathlib.Core.Bool.{false}
use mathlib.Core.Path.{ap, ◌∙◌}
use Prim.Native.Nat.{◌-◌}
use native.Mathlib.Omega.{arith}
use lib.ListN.{length, take, length-drop}
use Rattle.simd.specs.Basic.{family_of, state_words}
use Rattle.laws.proofs.Chain.{length_compression}
use Rattle.bits.proofs.Zeros.{length_padded}
use Rattle.tail.proofs.Sizes.{bytes_within}
use Rattle.bits.proofs.Parts.{front_size, back}
use Rattle.tail.proofs.Absorbing.{refit}
use Rattle.shifted_blocks.proofs.Running.{crossed_state, crossed_tail}
use Rattle.shifted_blocks.proofs.complete_and_absorb.Goals as goal

-- The place after the tail's block is complete, and the start from there.
pub complete_block-last-requires : goal.complete_block-last-requires
complete_block-last-requires c =
    let a = c.args in
    let room = a.size - a.at in
    let words = ap length c.requires.words ∙ length_padded 32 (take (state_words (family_of a.width)) a.state.now) in
    let size = front_size room a.src.now (omega (arith, c.requires.within, c.requires.first)) in (
      words,
      c.requires.scaled,
      omega (arith, size, c.requires.block, c.requires.started),
      omega (arith, size, c.requires.block, c.requires.started, c.requires.bytes, bytes_within (family_of a.width)),
    )

pub absorb_whole_blocks-requires : goal.absorb_whole_blocks-requires
absorb_whole_blocks-requires c =
    let a = c.args in
    let done = c.complete_block-last in
    let f = family_of a.width in
    let rest = ap length (back (a.size - a.at) a.src.now) ∙ length-drop (a.size - a.at) a.src.now in (
      refit f done.new.state _ (length_compression f false (take (state_words f) a.state.now) _) done.ensures.0,
      c.requires.scaled,
      c.requires.blocks,
      omega (arith, rest, c.requires.first, c.requires.within, c.requires.started),
      omega (arith, rest, c.requires.first, c.requires.within, c.requires.started, c.requires.rest, c.requires.bytes, done.auto.tail),
    )

pub returns : goal.returns
returns c =
    let a = c.args in
    let first = c.complete_block-last in
    let rest = c.absorb_whole_blocks in (
      crossed_state a.width a.size a.state.now a.tail.now a.at a.scale a.carry a.src.now a.whole c.requires
          first.new.state rest.new.state first.result first.ensures.0 first.ensures.1 rest.ensures.0,
      crossed_tail a.width a.size a.state.now a.tail.now a.at a.scale a.carry a.src.now a.whole c.requires
          first.new.tail rest.new.tail first.result first.auto.tail first.ensures.1 rest.ensures.1,
    )
