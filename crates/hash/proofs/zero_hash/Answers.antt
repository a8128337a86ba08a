-- Zeros hold no bits.
use mathlib.Core.Path.{refl}
use Rattle.simd.specs.Basic.{table, sum}
use Rattle.simd.specs.Message.{byte_of}
use Rattle.bits.specs.Zero.{padded}
use Rattle.hash.specs.Open.{holding}
use Rattle.hash.proofs.zero_hash.Goals as goal

pub returns : goal.returns
unfolding holding padded table byte_of sum
returns c = refl
