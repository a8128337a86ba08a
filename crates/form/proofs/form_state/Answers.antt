-- The state follows the head, whatever its size.
use mathlib.Core.Path.{ap, ◌∙◌}
use native.Mathlib.Omega.{arith}
use Rattle.bits.specs.Zero.{padded}
use Rattle.form.proofs.Current.{state_read, at_least}
use Rattle.form.proofs.form_state.Goals as goal

pub head_of-head-requires : goal.head_of-head-requires
head_of-head-requires c = (omega (arith, c.requires.0, at_least c.args.form.now c.requires.2), c.requires.1)

pub read_words-requires : goal.read_words-requires
read_words-requires c =
    (omega arith, omega (arith, c.requires.0, c.head_of-head.ensures, at_least c.args.form.now c.requires.2))

pub returns : goal.returns
returns c =
    let head = c.head_of-head in
    c.read_words.ensures
    ∙ ap (padded 32) (state_read c.args.form.now c.args.size head.result c.requires.0 c.requires.2 head.ensures)
