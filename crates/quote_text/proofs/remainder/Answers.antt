-- The invariant: what the digits of the first k bytes show, modulo 97.
use Rattle.std.proofs.Common.{arith, refl}
use Rattle.check_digits.specs.Quote.{shown}
use Rattle.quote_text.proofs.Shown.{remainder_more}
use Rattle.quote_text.proofs.remainder.Goals as goal

pub loop-k-init : goal.loop-k-init
unfolding shown
loop-k-init c = (omega arith, refl)

pub loop-k-preserved : goal.loop-k-preserved
loop-k-preserved c = (
  omega arith,
  remainder_more c.args.digits.now c.loop-k.k c.loop-k.left _ (omega arith) c.loop-k.invariant.1 c.byte.ensures.0,
)
