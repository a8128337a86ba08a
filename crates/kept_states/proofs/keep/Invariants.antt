-- The invariant: k states are written, and all blocks before the next that is kept are compressed.
use lib.ListN.{take}
use Rattle.simd.specs.Basic.{family_of, state_words}
use Rattle.kept_states.proofs.Keeping.{Kept}
use Rattle.kept_states.proofs.keep.Given as goal

abbrev pub invariant-loop-k : goal.invariant-loop-k
invariant-loop-k l =
    Kept (family_of l.width) (take (state_words (family_of l.width)) l.initial.state) l.blocks l.full l.k l.state l.states
