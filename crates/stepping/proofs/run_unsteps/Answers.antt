-- What run leaves in this direction.
use borrow.Author.Rules.{rules}
use Rattle.block_steps.specs.Moved.{turned, moved}
use Rattle.stepping.specs.Call.{backward}
use Rattle.stepping.proofs.run_unsteps.Goals as goal

pub returns : goal.returns
unfolding backward moved turned
returns c = record { value = c.run.ensures.value; out_after = c.run.ensures.out_after }
