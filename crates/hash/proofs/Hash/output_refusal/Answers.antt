use Rattle.hash.specs.Open.{legal}
use Rattle.hash.proofs.Hash.output_refusal.Goals as goal

pub returns : goal.returns
unfolding legal
returns c = c.output_refusal.ensures
