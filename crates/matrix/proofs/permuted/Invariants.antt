-- Row i becomes row P(i) of Z.
use mathlib.Core.List.{[]}
use lib.ListN.{get_or}
use Rattle.simd.specs.Constants.{order}
use Rattle.laws.proofs.Fill.{Filled}
use Rattle.matrix.proofs.permuted.Given as goal

abbrev pub invariant-loop-i : goal.invariant-loop-i
invariant-loop-i g l = Filled [] 32 (λ k. get_or l.rows (get_or order k 0) []) l.i l.w
