-- The full blocks, and one more where bits are left.
use Rattle.iteration.proofs.BlockLaws.{all_even, all_odd, bits_are}
use Rattle.iteration.proofs.compress_message.Goals as goal

pub returns-then-count-ne0 : goal.returns-then-count-ne0
returns-then-count-ne0 g c =
    let f = g.F.Rows.family in
    let bits = bits_are f g.row.W g.met.F.Family.has_words in
    let some = rw bits at c.if-count-ne0.true in
    let full = rw bits at c.compress_blocks.ensures in
    all_odd f _ _ _ c.requires.0 some full c.compress_last.ensures

pub returns-else-count-ne0 : goal.returns-else-count-ne0
returns-else-count-ne0 g c =
    let f = g.F.Rows.family in
    let bits = bits_are f g.row.W g.met.F.Family.has_words in
    let none = rw bits at c.if-count-ne0.false in
    let full = rw bits at c.compress_blocks.ensures in
    all_even f _ _ _ c.requires.0 none full
