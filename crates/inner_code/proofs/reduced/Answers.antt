-- With 65536 added the number is positive, and its remainder is the residue.
use native.Mathlib.Omega.{arith}
use mir.Facts.{to_z_pos, to_z-of_z}
use mir.Syntax.{w32}
use Rattle.inner_code.proofs.Signed.{raised, raised_is, raised_lt, raised_residue}
use Rattle.inner_code.proofs.reduced.Goals as goal

pub returns : goal.returns
returns c =
    let below = raised_lt c.args.z c.requires in
    rw (to_z-of_z c.ranges.z, raised_is c.args.z c.requires, to_z_pos w32 {n = raised c.args.z} (omega arith)) (raised_residue c.args.z c.requires)
