use Rattle.std.proofs.Common.{◌%◌, get_or}
use Rattle.simd.specs.Steps.{rotl}
use Rattle.laws.proofs.Fill.{Filled}
use Rattle.step.proofs.rotated.Given as goal

-- The first j words stand.
abbrev pub invariant-loop-j : goal.invariant-loop-j
invariant-loop-j g l = Filled 0 g.row.R (λ j. rotl (l.r % 32) (get_or l.a j 0)) l.j l.b
