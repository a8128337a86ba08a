use mathlib.Core.Path.{◌∙◌}
use Rattle.form.proofs.Forming.{read_two}
use Rattle.form.proofs.read_width.Goals as goal

pub returns : goal.returns
returns c = c.from_le_bytes.ensures ∙ read_two c.args.form.now
