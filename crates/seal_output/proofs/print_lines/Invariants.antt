-- What was printed and what is still to come make the listing, and each line starts at a later place of the tape.
use Rattle.std.proofs.Common.{◌≡◌, ◌-◌, length}
use Rattle.std.specs.Io.KnownBytes.{Appends}
use Rattle.listing_theorems.proofs.Printing.{Printing}
use Rattle.seal_output.proofs.print_lines.Given as goal

abbrev pub invariant-loop-at : goal.invariant-loop-at
invariant-loop-at g l =
    (length l.text ≡ 192) × (p : Printing l.tape l.at l.count) × Appends (g.W.Write.contents l.fn.out) (g.W.Write.contents l.out) p.printed

abbrev pub decreases-loop-at : goal.decreases-loop-at
decreases-loop-at g l = length l.tape - l.at
