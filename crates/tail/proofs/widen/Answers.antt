use Rattle.std.proofs.Common.{refl, replicate, length, ◌≡◌, arith}
use Rattle.bits.specs.Zero.{all_zero}
use Rattle.tail.proofs.Absorbing.{widened}
use Rattle.tail.proofs.widen.Goals as goal

pub returns : goal.returns
unfolding all_zero
returns c =
    let size : length c.args.state ≡ 16 = omega arith in
    rw c.copy_from_slice.ensures.after (widened c.args.state (replicate 16 0) size refl refl)
