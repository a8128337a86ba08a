use Rattle.std.proofs.Common.{arith}
use Rattle.laws.proofs.Fill.{filled_all}
use Rattle.compression.specs.Flat.{flat}
use Rattle.compression.proofs.flat.Goals as goal

pub returns : goal.returns
unfolding flat
returns g c = rw (g.met.F.Family.has_words, g.met.F.Rows.has_rows) (filled_all c.loop-k.invariant (omega arith))
