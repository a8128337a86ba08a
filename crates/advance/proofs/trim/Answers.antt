-- Cut or kept, by the test.
use mathlib.Core.Path.{refl}
use Rattle.advance.proofs.trim.Goals as goal

pub returns-then-count-ne0 : goal.returns-then-count-ne0
returns-then-count-ne0 c =
    ((λ even. absurd (c.if-count-ne0.true even)), (λ odd. c.cut.ensures))

pub returns-else-count-ne0 : goal.returns-else-count-ne0
returns-else-count-ne0 c = ((λ even. refl), (λ odd. absurd (odd c.if-count-ne0.false)))
