-- The invariant: the bytes of the first i words are written.
use Prim.Native.Nat.{◌*◌}
use lib.ListN.{length}
use Rattle.bits.proofs.Filling.{Filled}
use Rattle.little_endian.proofs.Writing.{word_byte}
use Rattle.little_endian.proofs.write_words.Given as goal

abbrev pub invariant-loop-i : goal.invariant-loop-i
invariant-loop-i l = Filled (length l.initial.out) (4 * l.i) (word_byte l.words) l.out
