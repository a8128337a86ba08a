-- The bit length is the number behind the width.
use Rattle.form.specs.Head.{form_bits}
use Rattle.form.proofs.read_bits.Goals as goal

pub returns : goal.returns
unfolding form_bits
returns c = c.read_long.ensures
