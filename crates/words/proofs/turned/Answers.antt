-- The left and the right part joined by or are the rotation.
use Rattle.std.proofs.Common.{◌≡◌, ℕ, zero, suc, ◌-◌, ◌*◌, ◌/◌, ◌%◌, ◌^◌, ◌<◌, ap, ◌∙◌, arith, rules}
use lib.Bits.{bit_or, or_zero_r}
use Rattle.simd.specs.Steps.{rotl}
use Rattle.laws.proofs.Words.{rotl_code}
use Rattle.words.proofs.turned.Goals as goal

-- The two parts of a rotation by k, which may be 0: then the right part is empty.
parts : (k x : ℕ) → k < 32 → x < 2 ^ 32 → bit_or (x * 2 ^ k % 2 ^ 32) (x / 2 ^ (32 - k)) ≡ rotl k x
unfolding rotl
parts zero x less fits =
    let right : x / 2 ^ 32 ≡ 0 = omega arith in
    rw right (or_zero_r (x * 1 % 2 ^ 32) ∙ omega arith)
parts (suc k) x less fits =
    let rest : 32 - suc k ≡ (32 - suc k) % 32 = omega arith in
    ap (λ n. bit_or (x * 2 ^ suc k % 2 ^ 32) (x / 2 ^ n)) rest ∙ rotl_code (suc k) x less fits

pub returns : goal.returns
returns c =
    (λ t. bit_or (c.requires t) (c.right.ensures t)) ∙ parts (c.args.r % 32) c.args.x (search rules) c.ranges.x.fits
