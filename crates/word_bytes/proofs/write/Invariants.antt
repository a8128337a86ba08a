-- The bytes passed are those of their words.
use Rattle.std.proofs.Common.{length, ◌*◌, ◌/◌, ◌%◌, ◌^◌, get_or}
use Rattle.laws.proofs.Fill.{Filled}
use Rattle.word_bytes.proofs.write.Given as goal

abbrev pub invariant-loop-j : goal.invariant-loop-j
invariant-loop-j l = Filled 0 (4 * length l.words) (λ k. get_or l.words (k / 4) 0 / 256 ^ (k % 4) % 256) l.j l.out
