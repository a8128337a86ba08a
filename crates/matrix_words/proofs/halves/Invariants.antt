-- Place by place, the words are filled.
use Rattle.laws.proofs.Fill.{Filled}
use Rattle.matrix_words.specs.Layers.{halves_apart}
use Rattle.matrix_words.proofs.halves.Given as goal

abbrev pub invariant-loop-k : goal.invariant-loop-k
invariant-loop-k l = Filled 0 l.n (halves_apart l.n l.shift l.words) l.k l.out
