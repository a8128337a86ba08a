-- Place by place, both strings of codes are filled further.
use Prim.Native.Nat.{◌+◌}
use lib.ListN.{length}
use Rattle.laws.proofs.Fill.{Filled}
use Rattle.inner_code.specs.Codes.{coded}
use Rattle.inner_code.proofs.more_codes.Given as goal

abbrev pub invariant-loop-k : goal.invariant-loop-k
invariant-loop-k l =
    Filled 0 (length l.y) (coded 185 l.y) (l.at + l.k) l.by185 × Filled 0 (length l.y) (coded 233 l.y) (l.at + l.k) l.by233
