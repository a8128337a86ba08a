-- OPEN: busy where a hash is open, else what `Hash::open` answers.
use Rattle.commands.proofs.Steps.{open_busy, open_new}
use Rattle.commands.proofs.opening.Goals as goal

pub returns-then-hash-ne0 : goal.returns-then-hash-ne0
returns-then-hash-ne0 c = open_busy c.args.width c.args.hash c.if-hash-ne0.true

pub returns : goal.returns
returns c =
    let a = c.args in
    rw c.number_of.ensures (open_new a.width a.hash _ c.if-hash-ne0.false c.open-opened.ensures)
