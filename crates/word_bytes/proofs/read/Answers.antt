use Rattle.std.proofs.Common.{arith}
use Rattle.simd.specs.Basic.{words_of}
use Rattle.laws.proofs.Fill.{filled_all}
use Rattle.word_bytes.proofs.read.Goals as goal

pub returns : goal.returns
unfolding words_of
returns c = filled_all c.loop-i.invariant (omega (arith, c.loop-i.invariant.size))
