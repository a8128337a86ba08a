-- After i turns the digits of the first i bytes stand at the place.
use Rattle.std.proofs.Common.{◌≡◌, take}
use Rattle.text.specs.Text.{over, hex as hexOf}
use Rattle.text.proofs.hex.Given as goal

abbrev pub invariant-loop-i : goal.invariant-loop-i
invariant-loop-i l = l.text ≡ over l.initial.text l.at (hexOf (take l.i l.bytes))
