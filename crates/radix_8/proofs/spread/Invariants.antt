-- Turn by turn, one number at a place that no turn before has.
use Prim.Native.Nat.{◌+◌, ◌*◌}
use lib.ListN.{get_or}
use Rattle.laws.proofs.Stores.{Filled}
use Rattle.radix_8.proofs.spread.Given as goal

abbrev pub invariant-loop-j : goal.invariant-loop-j
invariant-loop-j l = Filled (λ j. get_or l.v j 0) (λ j. l.at + l.gap * j) l.initial.y l.y l.j
