-- Rotation to the right by r is rotation to the left by 32 - r.
use Rattle.std.proofs.Common.{◌≡◌, ◌-◌, ◌%◌, ap, ◌∙◌, arith}
use Rattle.simd.specs.Steps.{rotl}
use Rattle.unstep_rows.specs.Rows.{rotr}
use Rattle.unstep_rows.proofs.unrotate.Goals as goal

pub returns : goal.returns
unfolding rotr
returns c =
    let less : (32 - c.args.r) % 32 ≡ 32 - c.args.r = omega arith in
    c.rotate.ensures ∙ ap (λ k. rotl k c.args.x) less
