-- The first half of the output comes back as the low halves, the rest as the high ones.
use Rattle.matrix_words.specs.Layers.{halves_apart, lower}
use Rattle.matrix_words.proofs.Assembly.{two_parts}
use Rattle.matrix_words.proofs.lower.Goals as goal

pub returns : goal.returns
unfolding lower
returns c =
    let a = c.args in
    two_parts a.quarter a.out.now (halves_apart a.quarter 0 a.pairs.now)
    c.halves.ensures c.halves-2.ensures
