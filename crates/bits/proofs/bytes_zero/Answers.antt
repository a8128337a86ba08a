use Rattle.std.proofs.Common.{rules}
use Rattle.bits.proofs.Zeros.{or_zero}
use Rattle.bits.proofs.bytes_zero.Goals as goal

pub returns : goal.returns
returns c = or_zero c.args.bytes.now c.fold.result (search rules)
