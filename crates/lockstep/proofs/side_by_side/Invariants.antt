-- The loop's invariant: the states go into the blocks of the number, and of the numbers above it the smallest at which the pairs differ is kept.
use mathlib.Core.Path.{◌≡◌}
use Prim.Native.Nat.{suc, ◌-◌}
use Rattle.simd.specs.Basic.{family_of}
use Rattle.simd.specs.Constants.{start}
use Rattle.pairs.specs.Lists.{least}
use Rattle.pairs.specs.Pairs.{differ_at}
use Rattle.pairs.specs.Messages.{bits_in}
use Rattle.lockstep.specs.Lockstep.{Reached}
use Rattle.lockstep.proofs.side_by_side.Given as goal

abbrev pub invariant-loop-number : goal.invariant-loop-number
invariant-loop-number l =
    Reached l.width (bits_in l.a) (bits_in l.b) l.number l.s l.t
    × (l.met ≡ least (differ_at (family_of l.width) (start l.width) (bits_in l.a) (bits_in l.b)) (l.common - l.number) (suc l.number))
