-- What was read lies within the room, turn by turn, and is what the input lost.
use Rattle.std.proofs.Common.{length, ◌-◌, ◌≡◌, ◌≤◌, take}
use Rattle.std.specs.Io.KnownBytes.{Consumes}
use Rattle.seal_input.proofs.read_tape.Given as goal

abbrev pub invariant-loop-size : goal.invariant-loop-size
invariant-loop-size g l =
    (length l.tape ≡ length l.fn.tape) × (l.size ≤ length l.tape) × Consumes (g.R.Read.remaining l.fn.input) (g.R.Read.remaining l.input) (take l.size l.tape)

abbrev pub decreases-loop-size : goal.decreases-loop-size
decreases-loop-size g l = length l.tape - l.size
