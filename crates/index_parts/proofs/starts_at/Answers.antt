-- The smaller of the block's place among the kept states and the last of them.
use native.Mathlib.Omega.{arith}
use borrow.Author.Rules.{rules}
use Rattle.checkpoints.specs.Index.{starts_at}
use Rattle.index_parts.proofs.starts_at.Goals as goal

pub returns-then-kept-eq0 : goal.returns-then-kept-eq0
unfolding starts_at
returns-then-kept-eq0 c = omega (arith, c.if-kept-eq0.true, c.kept-kept.ensures)

pub returns-then-place-kept : goal.returns-then-place-kept
unfolding starts_at
returns-then-place-kept c = omega (arith, c.if-place-kept.true, c.kept-kept.ensures)

pub returns-else-place-kept : goal.returns-else-place-kept
unfolding starts_at
returns-else-place-kept c = omega (arith, c.if-place-kept.false, c.kept-kept.ensures)
