-- Place by place, the words are filled.
use native.Mathlib.Omega.{arith}
use Rattle.laws.proofs.Fill.{filled_more, filled_all}
use Rattle.matrix_words.specs.Layers.{halves_apart}
use borrow.Author.Rules.{rules}
use Rattle.matrix_words.proofs.halves.Goals as goal

pub loop-k-preserved : goal.loop-k-preserved
unfolding halves_apart
loop-k-preserved c = filled_more c.loop-k.invariant (search rules) (omega (arith, c.half.ensures.0, c.half-in-loop-k.ensures.0))

pub returns : goal.returns
returns c = filled_all c.loop-k.invariant (search rules)
