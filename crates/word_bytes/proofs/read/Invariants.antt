-- The words passed are read.
use Rattle.std.proofs.Common.{length}
use Rattle.simd.specs.Basic.{word_at}
use Rattle.laws.proofs.Fill.{Filled}
use Rattle.word_bytes.proofs.read.Given as goal

abbrev pub invariant-loop-i : goal.invariant-loop-i
invariant-loop-i l = Filled 0 (length l.initial.words) (word_at l.bytes) l.i l.words
