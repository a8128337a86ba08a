-- The whole bytes decide first, then, where one is left that is not full, its first bits.
use Rattle.pairs.proofs.ListLaws.{slices_other, slices_same}
use Rattle.comparison.proofs.BitLaws.{bytes_other, bytes_all, last_decides}
use Rattle.comparison.proofs.same_bits.Goals as goal

pub returns-then-ne : goal.returns-then-ne
returns-then-ne c =
    bytes_other _ _ _ (λ j. (c.shared_slice_known-1.given j).fits) (λ j. (c.shared_slice_known-2-1.given j).fits) c.requires.0 c.requires.1
    (slices_other _ _ c.ne.ensures c.if-ne.true)

pub returns-then-count-eq0 : goal.returns-then-count-eq0
returns-then-count-eq0 c =
    bytes_all _ _ _ (λ j. (c.shared_slice_known-1.given j).fits) (λ j. (c.shared_slice_known-2-1.given j).fits) c.requires.0 c.requires.1
    (slices_same _ _ c.ne.ensures c.if-ne.false) c.if-count-eq0.true

pub returns : goal.returns
returns c =
    last_decides _ _ _ (λ j. (c.shared_slice_known-1.given j).fits) (λ j. (c.shared_slice_known-2-1.given j).fits) c.requires.0 c.requires.1
    (slices_same _ _ c.ne.ensures c.if-ne.false)
