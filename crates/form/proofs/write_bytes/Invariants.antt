-- The invariant: the first i bytes are copied.
use lib.ListN.{length, get_or}
use Rattle.bits.proofs.Filling.{Filled}
use Rattle.form.proofs.write_bytes.Given as goal

abbrev pub invariant-loop-i : goal.invariant-loop-i
invariant-loop-i l = Filled (length l.initial.out) l.i (λ k. get_or l.src k 0) l.out
