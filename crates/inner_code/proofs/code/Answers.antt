-- The product of c and the lift fits the machine's numbers, and its residue is the code.
use mathlib.Core.Path.{◌≡◌, ap, ◌∙◌}
use Prim.Native.Nat.{◌<◌}
use native.Mathlib.Omega.{arith}
use lib.IntN.{pos, ◌*ℤ◌}
use lib.Signed.{mag}
use mir.Facts.{to_z-of_z}
use mir.Syntax.{w32}
use mir.Val.{to_z, of_z}
use Rattle.simd.specs.Expansion.{lift, code, residue}
use Rattle.inner_code.proofs.Signed.{product_mag}
use Rattle.inner_code.proofs.code.Goals as goal

product : (c : goal.After-lift) → to_z w32 (of_z w32 c.from.result) *ℤ to_z w32 (of_z w32 c.lift.result) ≡ pos c.args.c *ℤ lift c.args.y
product c =
    rw (to_z-of_z {w = w32} (record { sfits = c.from.type_inv }), to_z-of_z {w = w32} (record { sfits = c.lift.type_inv }), c.from.ensures, c.lift.ensures)

small : (c : goal.After-lift) → mag (pos c.args.c *ℤ lift c.args.y) < 65536
small c = product_mag c.args.c c.args.y c.requires.0 c.requires.1

pub overflow_mul-from : goal.overflow_mul-from
overflow_mul-from c = rw (product c) (record { sfits = omega (arith, small c) })

pub reduced-requires : goal.reduced-requires
reduced-requires c = rw (to_z-of_z (overflow_mul-from c), product c) (small c)

pub returns : goal.returns
unfolding code
returns c = c.reduced.ensures ∙ ap residue (to_z-of_z (overflow_mul-from c.before) ∙ product c.before)
