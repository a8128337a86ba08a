-- The invariant: the bytes before i are written, and `held` is the carry that goes into byte i.
use lib.ListN.{length}
use Rattle.bits.proofs.Stream.{Shifting}
use Rattle.bits.proofs.shift.Given as goal

abbrev pub invariant-loop-i : goal.invariant-loop-i
invariant-loop-i l = Shifting l.scale l.carry l.src (length l.initial.dst) l.i l.dst l.held
