-- Row by row, the lent words take the rows.
use mathlib.Core.List.{[]}
use lib.ListN.{get_or}
use Rattle.expansion.proofs.Written.{Written}
use Rattle.expansion.proofs.output.put.Given as goal

abbrev pub invariant-loop-i : goal.invariant-loop-i
invariant-loop-i g l = Written g.row.R (λ k. get_or l.rows k []) l.initial.out l.i l.out
