-- The answer is that of the case at hand.
use mathlib.Core.Path.{sym, ap}
use Rattle.tape.specs.Standing.{close_of}
use Rattle.tape.specs.declared.Next.{Next}
use borrow.Author.Rules.{rules}
use Rattle.tape.proofs.closing.Goals as goal

pub returns-in-Taken : goal.returns-in-Taken
returns-in-Taken c = sym (ap (λ (n : Next). close_of n c.args.digests) c.in-Taken.is)

pub returns-in-Ended : goal.returns-in-Ended
returns-in-Ended c = sym (ap (λ (n : Next). close_of n c.args.digests) c.in-Ended.is)
