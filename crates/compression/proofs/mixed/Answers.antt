use Rattle.std.proofs.Common.{arith}
use Rattle.laws.proofs.Fill.{filled_all}
use Rattle.compression.proofs.Laws.{mixed_words}
use Rattle.compression.proofs.mixed.Goals as goal

pub returns : goal.returns
returns g c =
    rw (← mixed_words g.F.Rows.family c.args.old c.args.block.now, g.met.F.Family.has_words) (filled_all c.loop-i.invariant (omega arith))
