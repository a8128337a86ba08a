-- Each test picks its case of the definition.
use borrow.Author.Rules.{rules}
use Rattle.expansion.proofs.Refused.{other_size, too_short, none}
use Rattle.expansion.proofs.size_refusal.Goals as goal

pub returns-then-bytes-block : goal.returns-then-bytes-block
returns-then-bytes-block c = let a = c.args in other_size a.block a.words a.bytes a.room (search rules)

pub returns-then-room-words : goal.returns-then-room-words
returns-then-room-words c = let a = c.args in too_short a.block a.words a.bytes a.room (search rules) (search rules)

pub returns : goal.returns
returns c = let a = c.args in none a.block a.words a.bytes a.room (search rules) (search rules)
