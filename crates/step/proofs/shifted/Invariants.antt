use Rattle.std.proofs.Common.{◌*◌, ◌%◌, ◌^◌, get_or}
use Rattle.laws.proofs.Fill.{Filled}
use Rattle.step.proofs.shifted.Given as goal

-- The first j words stand.
abbrev pub invariant-loop-j : goal.invariant-loop-j
invariant-loop-j g l = Filled 0 g.row.R (λ j. get_or l.a j 0 * 2 ^ (l.r % 32) % 2 ^ 32) l.j l.h
