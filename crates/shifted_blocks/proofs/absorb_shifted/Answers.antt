-- A source that needs no shift is its own shifted bytes.
use mathlib.Core.Path.{ap, ◌∙◌}
use lib.ListN.{length, take}
use Rattle.simd.specs.Basic.{family_of, state_words}
use Rattle.bits.specs.Zero.{padded}
use Rattle.bits.proofs.Zeros.{length_padded}
use Rattle.shifted_blocks.proofs.Running.{straight}
use Rattle.shifted_blocks.proofs.absorb_shifted.Goals as goal

pub absorb-requires : goal.absorb-requires
absorb-requires c =
    ap length c.requires.0 ∙ length_padded 32 (take (state_words (family_of c.args.width)) c.args.state.now)

pub returns-then-carry-eq0 : goal.returns-then-carry-eq0
returns-then-carry-eq0 c =
    let a = c.args in
    let f = family_of a.width in
    let same =
    straight f (take (state_words f) a.state.now) a.src.now a.scale a.carry
    c.if-scale-eq256.true c.if-carry-eq0.true
    (λ i. (c.type_inv.src i).fits) in
    record { came = c.absorb.ensures ∙ ap (padded 32) same.0; carried = same.1 }
