-- The digits, the spaces that they leave, and the end of the line.
use mathlib.Core.Path.{refl}
use native.Mathlib.Omega.{arith}
use lib.ListN.{length-set}
use Rattle.page_columns.proofs.Written.{digits_written}
use Rattle.page_columns.proofs.digits.Goals as goal

pub shape_of-text : goal.shape_of-text
shape_of-text c = simp length-set (omega (arith, c.before.before))

pub returns : goal.returns
returns c =
    let a = c.args in (
      digits_written a.text.now a.at a.bytes.now c.requires.0 c.requires.1 _ _ _ _ refl
          c.fill-end.ensures.1 c.hex.ensures.0 c.fill-end.ensures.0,
      omega (arith, c.fill-end.ensures.1, c.requires),
    )
