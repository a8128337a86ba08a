-- At most 128, y is its own lift; above, y - 257 is. In both cases the difference is the lift, and small.
use mathlib.Core.Path.{◌≡◌, ◌∙◌, sym}
use native.Mathlib.Omega.{arith}
use lib.IntN.{◌-ℤ◌}
use mir.Facts.{to_z-of_z}
use mir.Syntax.{w32}
use mir.Val.{to_z, of_z}
use Rattle.simd.specs.Expansion.{lift}
use Rattle.inner_code.proofs.Signed.{lift_low, lift_high, lift_mag, minus_none}
use Rattle.inner_code.proofs.lift.Goals as goal
use Rattle.inner_code.proofs.lift.Goals.{then-y-le128, else-y-le128}

difference : (c : goal.Joined-y-le128) → to_z w32 (of_z w32 c.from-z.result) -ℤ to_z w32 c.if-y-le128.turn-bits ≡ lift c.args.y
difference c =
    rw (to_z-of_z {w = w32} (record { sfits = c.from-z.type_inv }), c.from-z.ensures)
    (elim c.if-y-le128.branch [
      | then-y-le128 low ↦ rw low.turn-is (minus_none c.args.y ∙ sym (lift_low c.args.y (omega (arith, low.if-y-le128.true))))
      | else-y-le128 high ↦ rw high.turn-is (sym (lift_high c.args.y (omega (arith, high.if-y-le128.false))))
    ])

pub overflow_sub-result : goal.overflow_sub-result
overflow_sub-result c = rw (difference c) (record { sfits = omega (arith, lift_mag c.args.y c.requires) })

pub returns : goal.returns
returns c = to_z-of_z (overflow_sub-result c) ∙ difference c
