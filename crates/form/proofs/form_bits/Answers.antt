-- The shorter form is the old one. Its length is the word behind the width, and zeros follow it in the form that it stands for.
use mathlib.Core.Path.{◌∙◌}
use native.Mathlib.Omega.{arith}
use Rattle.form.proofs.Current.{shorter_bits, longer_bits, at_least}
use Rattle.form.proofs.form_bits.Goals as goal

pub read_word-requires : goal.read_word-requires
read_word-requires c = omega (arith, at_least c.args.form.now c.requires.2)

pub returns-then-form-size : goal.returns-then-form-size
returns-then-form-size c =
    c.from.ensures ∙ c.read_word.ensures ∙ shorter_bits c.args.form.now c.requires.2 (omega (arith, c.if-form-size.true, c.requires.0))

pub returns : goal.returns
returns c =
    c.read_bits.ensures ∙ longer_bits c.args.form.now c.requires.2 (omega (arith, c.if-form-size.false, c.requires.0))
