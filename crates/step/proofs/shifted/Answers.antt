use Rattle.std.proofs.Common.{arith}
use Rattle.laws.proofs.Fill.{filled_all}
use Rattle.step.proofs.shifted.Goals as goal

pub returns : goal.returns
returns g c = filled_all c.loop-j.invariant (omega arith)
