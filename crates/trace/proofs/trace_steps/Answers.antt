-- Refused as the steps are, for a ninth of the room; else the states of the width's family are written.
use Rattle.std.proofs.Common.{refl, ◌∙◌}
use Rattle.simd.specs.Basic.{small, large}
use Rattle.refusals.proofs.Numbers.{refused_not_0}
use Rattle.expansion.proofs.Refused.{family_small, family_large}
use Rattle.trace.proofs.Laws.{states_refused, states_sizes, states_accepted}
use Rattle.trace.proofs.trace_steps.Goals as goal

pub states-requires : goal.states-requires
states-requires c =
    let a = c.args in
    states_sizes a.width a.last a.state.now a.block.now a.out.now c.in-Ok.ensures refl small (family_small a.width c.if-width-le256.true)

pub states-requires-else-width-le256 : goal.states-requires-else-width-le256
states-requires-else-width-le256 c =
    let a = c.args in
    states_sizes a.width a.last a.state.now a.block.now a.out.now c.in-Ok.ensures refl large (family_large a.width c.if-width-le256.false)

pub returns-then-width-le256 : goal.returns-then-width-le256
returns-then-width-le256 c =
    let a = c.args in
    let all =
    states_accepted a.width a.last a.state.now a.block.now a.out.now c.in-Ok.ensures refl
    small (family_small a.width c.if-width-le256.true) c.states.ensures in
    record { value = all.0; out_after = all.1 }

pub returns-else-width-le256 : goal.returns-else-width-le256
returns-else-width-le256 c =
    let a = c.args in
    let all =
    states_accepted a.width a.last a.state.now a.block.now a.out.now c.in-Ok.ensures refl
    large (family_large a.width c.if-width-le256.false) c.states-else-width-le256.ensures in
    record { value = all.0; out_after = all.1 }

pub returns-in-Err : goal.returns-in-Err
returns-in-Err c =
    let a = c.args in
    let all =
    states_refused a.width a.last a.state.now a.block.now a.out.now c.in-Err.ensures (refused_not_0 c.in-Err.refusal _ refl) in
    record { value = c.number.ensures ∙ all.0; out_after = all.1 }
