use Rattle.std.proofs.Common.{arith}
use Rattle.laws.proofs.Fill.{filled_all}
use Rattle.unstep_rows.proofs.unrotate_rows.Goals as goal

pub returns : goal.returns
returns c = filled_all c.loop-j.invariant (omega arith)
