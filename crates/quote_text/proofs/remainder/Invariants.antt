-- The invariant: what the digits of the first k bytes show, modulo 97.
use Rattle.std.proofs.Common.{◌≡◌, ◌*◌, ◌%◌, ◌<◌, take}
use Rattle.check_digits.specs.Quote.{number}
use Rattle.quote_text.proofs.remainder.Given as goal

abbrev pub invariant-loop-k : goal.invariant-loop-k
invariant-loop-k l = (l.left < 97) × (l.left ≡ number (take (2 * l.k) l.digits) % 97)
