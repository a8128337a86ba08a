use Rattle.simd.specs.Steps.{state}
use Rattle.compression.proofs.split.Goals as goal

pub returns : goal.returns
unfolding state
returns g c = rw g.met.F.Rows.has_rows (cc)
