-- 256 shifted right by o bits is 2 to the power 8 - o.
use Rattle.bits.proofs.Stream.{scale_power}
use Rattle.bits.proofs.scale_of.Goals as goal

pub returns : goal.returns
returns c = scale_power c.args.held c.requires
