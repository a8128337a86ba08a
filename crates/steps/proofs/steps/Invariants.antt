use Rattle.std.proofs.Common.{◌≡◌}
use Rattle.simd.specs.Steps.{steps}
use Rattle.words.specs.Columns.{from_columns}
use Rattle.steps.proofs.steps.Given as goal

-- Turn by turn, one step more is done.
abbrev pub invariant-loop-i : goal.invariant-loop-i
invariant-loop-i g l = from_columns l.s ≡ steps g.F.Rows.family l.w l.i (from_columns l.initial.s)
