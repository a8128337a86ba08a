use Rattle.std.proofs.Common.{◌≡◌}
use Rattle.words.specs.Columns.{from_columns}
use Rattle.unsteps.specs.Unstep.{unsteps}
use Rattle.unsteps.proofs.unsteps.Given as goal

-- What is left to undo leads to the same start.
abbrev pub invariant-loop-i : goal.invariant-loop-i
invariant-loop-i g l = unsteps g.F.Rows.family l.w l.i (from_columns l.s) ≡ unsteps g.F.Rows.family l.w 32 (from_columns l.initial.s)
