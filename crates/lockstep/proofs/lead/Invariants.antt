-- The loop's invariant: the state is the one that goes into the block of the number.
use mathlib.Core.Path.{◌≡◌}
use Prim.Native.Nat.{◌≤◌}
use Rattle.simd.specs.Basic.{family_of}
use Rattle.simd.specs.Constants.{start}
use Rattle.simd.specs.Message.{message_blocks}
use Rattle.bits.specs.Zero.{padded}
use Rattle.pairs.specs.Pairs.{state_at}
use Rattle.pairs.specs.Messages.{bits_in}
use Rattle.lockstep.proofs.lead.Given as goal

abbrev pub invariant-loop-number : goal.invariant-loop-number
invariant-loop-number l =
    (l.rest ≤ l.number) × (l.number ≤ message_blocks (family_of l.width) l.message.bits)
    × (l.state ≡ padded 32 (state_at (family_of l.width) (start l.width) (bits_in l.message) l.number))
