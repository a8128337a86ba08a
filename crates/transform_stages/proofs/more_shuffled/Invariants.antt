-- Turn by turn, the next two places take one number of each half.
use Rattle.std.proofs.Common.{◌≡◌, ◌+◌, ◌*◌, length}
use Rattle.transform_stages.specs.Stage.{Shuffled}
use Rattle.transform_stages.proofs.more_shuffled.Given as goal

abbrev pub invariant-loop-k : goal.invariant-loop-k
invariant-loop-k l = (length l.y ≡ 2 * l.half) × Shuffled l.half (l.at + l.k) l.x l.y
