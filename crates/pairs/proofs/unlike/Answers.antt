-- The states are tested first; the blocks decide where they are equal.
use Rattle.std.proofs.Common.{rules}
use Rattle.pairs.proofs.unlike.Goals as goal
use Rattle.pairs.specs.Pairs.{unlike}
use Rattle.pairs.specs.Lists.{equal}

pub returns-then-ne : goal.returns-then-ne
unfolding unlike equal
returns-then-ne c = grind rules

pub returns-else-ne : goal.returns-else-ne
unfolding unlike equal
returns-else-ne c = grind rules
