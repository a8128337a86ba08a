-- A shift by 1 and one by 31 - k are a shift by 32 - k, which k = 0 allows.
use Rattle.std.proofs.Common.{◌≡◌, ◌+◌, ◌-◌, ◌/◌, ◌%◌, ◌^◌, ap, ◌∙◌, arith, shr-shr}
use Rattle.words.proofs.right.Goals as goal

pub returns : goal.returns
returns c =
    let x = c.args.x in
    let k = c.args.r % 32 in
    let all : 1 + (31 - k) ≡ 32 - k = omega arith in
    shr-shr x 1 (31 - k) ∙ ap (λ n. x / 2 ^ n) all
