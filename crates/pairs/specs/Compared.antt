-- What the comparison of two messages finds.
use Rattle.std.specs.Prelude.{cond, List, ℕ, min, length}
use Rattle.simd.specs.Basic.{Family, family_of}
use Rattle.simd.specs.Constants.{start}
use Rattle.simd.specs.Hash.{final, compressions}
use Rattle.pairs.specs.Lists.{equal, least}
use Rattle.pairs.specs.Pairs.{differ_at}

-- Messages that differ and meet are elsewhere a collision, here of the whole final state; the number tells where it comes about.
pub data Found : Type 0 where
  same : Found
  apart : Found
  meet : ℕ → Found

-- The numbers that both messages have are those below the smaller count of compressions.
unfoldable pub common : Family → List ℕ → List ℕ → ℕ
common f a b = min (compressions f (length a)) (compressions f (length b))

-- Messages with equal bits are the same. Of others the final states tell: apart where they differ, and where they are equal the messages
-- meet, at the smallest number at which their pairs differ.
unfoldable pub found : Family → List ℕ → List ℕ → List ℕ → Found
found f from a b =
    cond (equal a b) same (cond (equal (final f from a) (final f from b)) (meet (least (differ_at f from a b) (common f a b) 0)) apart)

unfoldable pub compared : ℕ → List ℕ → List ℕ → Found
compared width a b = found (family_of width) (start width) a b
