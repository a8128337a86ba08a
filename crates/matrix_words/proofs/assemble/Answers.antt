-- Codes, then pairs, then all words: together they are the words of Z.
use Rattle.matrix_words.proofs.Assembly.{flat_of}
use Rattle.matrix_words.proofs.assemble.Goals as goal

pub returns : goal.returns
returns c =
    flat_of c.args.quarter c.args.y.now c.requires.values
    c.codes.ensures.0 c.codes.ensures.1 c.words.ensures c.joined_rows.ensures
