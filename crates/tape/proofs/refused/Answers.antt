-- The end is that of the case at hand: a command found ends nothing.
use mathlib.Core.Path.{sym, ap}
use Rattle.tape.specs.Standing.{end_of}
use borrow.Author.Rules.{rules}
use Rattle.tape.proofs.refused.Goals as goal

pub returns-in-Refused : goal.returns-in-Refused
returns-in-Refused c = sym (ap end_of c.in-Refused.is)
