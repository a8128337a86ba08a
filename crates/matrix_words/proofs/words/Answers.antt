-- Place by place, the words are filled.
use Rattle.laws.proofs.Fill.{filled_more, filled_all}
use Rattle.matrix_words.specs.Layers.{neighbours}
use borrow.Author.Rules.{rules}
use Rattle.matrix_words.proofs.words.Goals as goal

pub loop-k-preserved : goal.loop-k-preserved
unfolding neighbours
loop-k-preserved c = filled_more c.loop-k.invariant (search rules) c.joined.ensures

pub returns : goal.returns
returns c = filled_all c.loop-k.invariant (search rules)
