use Rattle.std.proofs.Common.{arith}
use Rattle.simd.specs.Basic.{bytes_of}
use Rattle.laws.proofs.Fill.{filled_all}
use Rattle.word_bytes.proofs.write.Goals as goal

pub returns : goal.returns
unfolding bytes_of
returns c = filled_all c.loop-j.invariant (omega (arith, c.loop-j.invariant.size))
