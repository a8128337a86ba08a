-- The digits of 8 bytes, and over the byte behind them their check.
use mathlib.Core.Path.{refl}
use native.Mathlib.Omega.{arith}
use Rattle.quote_text.proofs.Shown.{quote_written}
use Rattle.quote_text.proofs.write.Goals as goal

pub returns : goal.returns
returns c = (
  quote_written c.args.text.now c.args.at _ c.args.digest.now _ _ _ c.requires.0 c.requires.1 refl
      c.hex.ensures.0 c.check-n.ensures.0 c.two_digits.ensures,
  omega arith,
)
