-- All that is left from a place on are the bytes behind it.
use Rattle.std.proofs.Common.{refl}
use Rattle.bits.proofs.Parts.{back}
use Rattle.comparison.proofs.behind.Goals as goal

pub returns : goal.returns
returns c = (back c.args.at c.args.message.bytes.now, refl)
