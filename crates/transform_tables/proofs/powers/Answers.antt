-- One test over the whole table: each entry is 41 times the one before it, and the first is 1.
use mathlib.Core.Path.{refl}
use Rattle.transform_tables.proofs.Constants.{powers_right}
use Rattle.transform_tables.proofs.powers.Goals as goal

pub returns : goal.returns
returns c = powers_right _ refl tt refl
