-- Place by place, the words are filled.
use Rattle.laws.proofs.Fill.{Filled}
use Rattle.matrix_words.specs.Layers.{neighbours}
use Rattle.matrix_words.proofs.words.Given as goal

abbrev pub invariant-loop-k : goal.invariant-loop-k
invariant-loop-k l = Filled 0 l.n (neighbours l.codes) l.k l.out
