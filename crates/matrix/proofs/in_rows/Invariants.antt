-- Row by row, Z is filled.
use Rattle.std.proofs.Common.{[]}
use Rattle.laws.proofs.Fill.{Filled}
use Rattle.matrix.specs.Rows.{row}
use Rattle.matrix.proofs.in_rows.Given as goal

abbrev pub invariant-loop-i : goal.invariant-loop-i
invariant-loop-i g l = Filled [] 32 (row g.row.R l.words) l.i l.z
