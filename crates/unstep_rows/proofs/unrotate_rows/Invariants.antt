use Rattle.std.proofs.Common.{length}
use Rattle.laws.proofs.Fill.{Filled}
use Rattle.unstep_rows.specs.Rows.{word_a}
use Rattle.unstep_rows.proofs.unrotate_rows.Given as goal

-- The first j words stand.
abbrev pub invariant-loop-j : goal.invariant-loop-j
invariant-loop-j l = Filled 0 (length l.fn.out) (word_a l.r l.b) l.j l.out
