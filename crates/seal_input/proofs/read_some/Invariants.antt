-- The room keeps its length, and a read that a signal cut short takes no byte of the input.
use Rattle.std.proofs.Common.{◌≡◌, length}
use Rattle.std.specs.Io.KnownBytes.{Keeps}
use Rattle.seal_input.proofs.read_some.Given as goal

abbrev pub invariant-loop : goal.invariant-loop
invariant-loop g l = (length l.room ≡ length l.fn.room) × Keeps (g.R.Read.remaining l.fn.input) (g.R.Read.remaining l.input)
