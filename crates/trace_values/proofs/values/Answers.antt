-- The transform of the width's family, into the front of the output.
use Rattle.std.proofs.Common.{◌++◌, drop, ap, sym}
use Rattle.std.proofs.lemmas.List.{length-take-le}
use Rattle.simd.specs.Basic.{small, large}
use Rattle.expansion.proofs.Refused.{family_small, family_large}
use Rattle.trace_values.specs.Values.{values}
use Rattle.trace_values.proofs.Shape.{sized, put}
use Rattle.trace_values.proofs.values.Goals as goal

pub slice_bounds-small-end-then-width-le256 : goal.slice_bounds-small-end-then-width-le256
slice_bounds-small-end-then-width-le256 c =
    let a = c.args in
    sym (length-take-le 128 a.out.now (sized a.width small (family_small a.width c.if-width-le256.true) c.requires).1)

pub small-requires-clause-block_len : goal.small-requires-clause-block_len
small-requires-clause-block_len c =
    let a = c.args in
    let sizes = sized a.width small (family_small a.width c.if-width-le256.true) c.requires in
    (sizes.0, length-take-le 128 a.out.now sizes.1)

pub returns-then-width-le256 : goal.returns-then-width-le256
unfolding values
returns-then-width-le256 c =
    let a = c.args in
    put a.width small (family_small a.width c.if-width-le256.true) (λ f. values f a.last a.block.now) a.out.now
    (ap (λ l. l ++ drop 128 a.out.now) c.small.ensures)

pub slice_bounds-large-end-2 : goal.slice_bounds-large-end-2
slice_bounds-large-end-2 c =
    let a = c.args in
    sym (length-take-le 256 a.out.now (sized a.width large (family_large a.width c.if-width-le256.false) c.requires).1)

pub large-requires-clause-block_len : goal.large-requires-clause-block_len
large-requires-clause-block_len c =
    let a = c.args in
    let sizes = sized a.width large (family_large a.width c.if-width-le256.false) c.requires in
    (sizes.0, length-take-le 256 a.out.now sizes.1)

pub returns : goal.returns
unfolding values
returns c =
    let a = c.args in
    put a.width large (family_large a.width c.if-width-le256.false) (λ f. values f a.last a.block.now) a.out.now
    (ap (λ l. l ++ drop 256 a.out.now) c.large.ensures)
