-- The state after the equal blocks is one of either message; from there on each is concluded by itself.
use Rattle.std.proofs.Common.{◌≡◌, refl, ap, ◌∙◌, length, take, length-take, arith}
use Rattle.bits.proofs.Zeros.{length_padded}
use Rattle.pairs.specs.Lists.{equal}
use Rattle.comparison.proofs.FinalLaws.{front_state, final_state_lem, final_test}
use Rattle.comparison.proofs.meet.Goals as goal

pub conclude-requires : goal.conclude-requires
conclude-requires c = let rest = c.behind-first.result in (ap length c.absorb.ensures ∙ length_padded 32 _, rest.within)

pub conclude-requires-2 : goal.conclude-requires-2
conclude-requires-2 c = let rest = c.behind-second.result in (ap length c.absorb.ensures ∙ length_padded 32 _, rest.within)

pub returns : goal.returns
unfolding equal
returns c =
    let width = c.args.width in
    let x = c.args.x in
    let y = c.args.y in
    let started = c.start_state-s.ensures in
    let known = c.requires.0 in
    let s = c.requires.1 in
    let long : length (take c.args.at x.bytes.now) ≡ c.args.at = omega (arith, s.first, x.within, length-take c.args.at x.bytes.now) in
    let after-x = front_state width known x.bytes.now x.bits c.args.at x.within s.blocks s.first started refl long c.absorb.ensures in
    let after-y = front_state width known y.bytes.now y.bits c.args.at y.within s.blocks s.second started s.front long c.absorb.ensures in
    final_test width _ _
    (final_state_lem width known x.bytes.now x.bits c.args.at x.within s.blocks s.first after-x c.behind-first.ensures.0 (rw c.behind-first.ensures.1 at c.conclude.ensures))
    (final_state_lem width known y.bytes.now y.bits c.args.at y.within s.blocks s.second after-y c.behind-second.ensures.0 (rw c.behind-second.ensures.1 at c.conclude-2.ensures))
    c.eq.ensures
