-- The invariant: the blocks before those that are left are compressed, and the carry is the one that stands there.
use mathlib.Core.Path.{◌≡◌}
use Prim.Native.Nat.{◌-◌}
use lib.ListN.{length, take, drop}
use Rattle.std.specs.Slice.Iter.{chunks_rest, chunks_size}
use Rattle.simd.specs.Basic.{family_of, state_words}
use Rattle.shifted_blocks.proofs.Running.{Running}
use Rattle.shifted_blocks.proofs.absorb_parts.Given as goal

abbrev pub invariant-loop-part : goal.invariant-loop-part
invariant-loop-part l =
    (chunks_size l.part-iterator ≡ 1024)
    × (chunks_rest l.part-iterator ≡ drop (length l.src - length (chunks_rest l.part-iterator)) l.src)
    × Running (family_of l.width) (take (state_words (family_of l.width)) l.initial.state) l.scale l.carry l.src
    (length l.src - length (chunks_rest l.part-iterator)) l.state l.buffer l.held
