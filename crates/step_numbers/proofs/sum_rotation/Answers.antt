-- Entry i mod 4 + 1 of a quadruple is entry i + 1.
use Rattle.std.proofs.Common.{◌∙◌}
use Rattle.words.proofs.Rotations.{next_rotation}
use Rattle.step_numbers.proofs.sum_rotation.Goals as goal

pub returns : goal.returns
returns c = (c.rotation.ensures.0 ∙ next_rotation _, c.rotation.ensures.1)
