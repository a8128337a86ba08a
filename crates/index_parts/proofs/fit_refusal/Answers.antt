-- The index first, and then the number of the block.
use mathlib.Core.Path.{sym, ◌∙◌}
use native.Mathlib.Omega.{arith}
use Rattle.simd.specs.Basic.{family_of}
use Rattle.kept_counts.proofs.Counts.{blocks_fit}
use Rattle.index_parts.proofs.Refusals.{unfit, block_above, block_within}
use Rattle.index_parts.proofs.fit_refusal.Goals as goal

pub returns-then-not-fits : goal.returns-then-not-fits
returns-then-not-fits c =
    let a = c.args in
    unfit a.width a.count a.old.now a.block (sym c.fits.ensures ∙ c.if-not-fits.true)

pub overflow_add-blocks : goal.overflow_add-blocks
overflow_add-blocks c =
    let a = c.args in
    omega (arith, c.message_blocks.ensures, blocks_fit (family_of a.width) a.count)

pub returns-then-blocks-block : goal.returns-then-blocks-block
returns-then-blocks-block c =
    let a = c.args in
    block_above a.width a.count a.old.now a.block (sym c.fits.ensures ∙ c.if-not-fits.false) (omega (arith, c.if-blocks-block.true, c.message_blocks.ensures))

pub returns : goal.returns
returns c =
    let a = c.args in
    block_within a.width a.count a.old.now a.block (sym c.fits.ensures ∙ c.if-not-fits.false) (omega (arith, c.if-blocks-block.false, c.message_blocks.ensures))
