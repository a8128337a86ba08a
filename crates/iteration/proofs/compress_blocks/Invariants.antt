-- The state is the one after the blocks passed.
use Rattle.std.proofs.Common.{◌≡◌}
use Rattle.iteration.specs.Blocks.{absorbed}
use Rattle.iteration.proofs.compress_blocks.Given as goal

abbrev pub invariant-loop-k : goal.invariant-loop-k
invariant-loop-k g l = l.state ≡ absorbed g.F.Rows.family l.initial.state l.bytes l.k
