-- The invariant: the first i words are read, and the others are 0.
use lib.ListN.{drop}
use Rattle.simd.specs.Basic.{words_of}
use Rattle.bits.proofs.Filling.{Copied}
use Rattle.form.proofs.read_words.Given as goal

abbrev pub invariant-loop-i : goal.invariant-loop-i
invariant-loop-i l = Copied 32 l.i (words_of l.words (drop l.at l.bytes)) l.state
