-- A hash is legal where its parts are.
use borrow.Author.Rules.{rules}
use Rattle.hash.specs.Open.{legal}
use Rattle.hmac_parts.proofs.is_legal.Goals as goal

pub returns : goal.returns
unfolding legal
returns c = c.is_legal.ensures
