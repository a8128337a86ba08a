-- The quotient is found as the upper half of a product by 255, and the difference of the lower halves is the remainder, or 257 more.
use Rattle.std.proofs.Common.{◌≡◌, ℕ, ◌*◌, ap, ◌∙◌, mul_assoc, arith}
use Rattle.transform_stages.proofs.Reduction.{product_bound, reduced}
use Rattle.transform_stages.proofs.product.Goals as goal

scaled : (f g y : ℕ) → g ≡ 255 * f → g * y ≡ 255 * (f * y)
scaled f g y e = ap (λ v. v * y) e ∙ mul_assoc 255 f y

pub returns : goal.returns
returns c =
    let a = c.args in
    let bound = product_bound a.f a.y c.requires.0 c.ranges.y.fits in
    rw (c.from.ensures, c.from-2.ensures, c.from-3.ensures, c.from-4.ensures, c.from-5.ensures, scaled a.f a.g a.y c.requires.1, c.requires.2)
    (reduced (a.f * a.y) _ bound (omega arith) (omega arith))
