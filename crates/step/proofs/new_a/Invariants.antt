use Rattle.words.specs.Columns.{word_a}
use Rattle.laws.proofs.Fill.{Filled}
use Rattle.step.proofs.new_a.Given as goal

-- The first j words stand.
abbrev pub invariant-loop-j : goal.invariant-loop-j
invariant-loop-j g l = Filled 0 g.row.R (word_a g.F.Rows.family l.i l.s l.x l.w l.b l.st) l.j l.a
