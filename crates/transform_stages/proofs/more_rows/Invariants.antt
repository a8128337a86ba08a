-- Each turn does one run of butterflies, which are of one place, and leaves the earlier ones as they are.
use Rattle.std.proofs.Common.{◌≡◌, ◌+◌, ◌*◌, length}
use Rattle.transform_stages.specs.Stage.{Crossed}
use Rattle.transform_stages.proofs.more_rows.Given as goal

abbrev pub invariant-loop-r : goal.invariant-loop-r
invariant-loop-r l = (length l.y ≡ 2 * l.half) × Crossed l.l l.half (l.at + l.r * l.n) l.x l.t l.y
