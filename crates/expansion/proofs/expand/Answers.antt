-- A refusal leaves the lent words as they are. Otherwise the block and the output have their family's sizes, and the rows are written.
use mathlib.Core.Path.{sym, ◌∙◌}
use lib.ListN.{length}
use Rattle.simd.specs.Basic.{small, large}
use Rattle.refusals.proofs.Numbers.{refused_not_0}
use Rattle.expansion.proofs.Refused.{family_small, family_large, sizes, refused, accepted}
use Rattle.expansion.proofs.expand.Goals as goal

pub returns-in_err-refusal-clause-out_after : goal.returns-in_err-refusal-clause-out_after
returns-in_err-refusal-clause-out_after c =
    let a = c.args in
    refused a.width a.last a.block.now a.out.now (refused_not_0 _ _ c.in_err-refusal.ensures)

pub write_small-requires : goal.write_small-requires
write_small-requires c =
    let a = c.args in
    sizes a.width (length a.block.now) (length a.out.now) small (family_small a.width c.if-width-le256.true) (sym c.in_ok-refusal.ensures)

pub returns-then-width-le256-clause-out_after : goal.returns-then-width-le256-clause-out_after
returns-then-width-le256-clause-out_after c =
    let a = c.args in
    c.write_small.ensures ∙ accepted a.width a.last a.block.now a.out.now small (family_small a.width c.if-width-le256.true) (sym c.in_ok-refusal.ensures)

pub write_large-requires : goal.write_large-requires
write_large-requires c =
    let a = c.args in
    sizes a.width (length a.block.now) (length a.out.now) large (family_large a.width c.if-width-le256.false) (sym c.in_ok-refusal.ensures)

pub returns-clause-out_after : goal.returns-clause-out_after
returns-clause-out_after c =
    let a = c.args in
    c.write_large.ensures ∙ accepted a.width a.last a.block.now a.out.now large (family_large a.width c.if-width-le256.false) (sym c.in_ok-refusal.ensures)
