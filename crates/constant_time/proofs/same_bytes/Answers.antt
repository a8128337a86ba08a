-- Strings of other lengths are unequal.
use Rattle.std.proofs.Common.{arith}
use Rattle.std.proofs.lemmas.Bool.Decides.{nat_tests}
use Rattle.pairs.proofs.ListLaws.{unequal_lengths}
use Rattle.constant_time.proofs.same_bytes.Goals as goal

pub returns-else-x-y : goal.returns-else-x-y
returns-else-x-y c = let e = unequal_lengths c.args.x.now c.args.y.now c.if-x-y.false in grind (arith, nat_tests)
