-- Part by part, both strings of codes are filled.
use mathlib.Core.List.{List}
use mathlib.Core.Path.{◌≡◌}
use Prim.Native.Nat.{ℕ, ◌+◌, ◌≤◌}
use native.Mathlib.Omega.{arith}
use lib.ListN.{length}
use Rattle.simd.specs.Basic.{table}
use Rattle.laws.proofs.Table.{table_of}
use Rattle.inner_code.specs.Codes.{coded, Begun}
use Rattle.inner_code.proofs.codes.Goals as goal

all : (c : ℕ) (y l : List ℕ) (at : ℕ) → Begun c y at l → length y ≤ at → l ≡ table (length y) (coded c y)
all c y l at b past = table_of 0 (length y) (coded c y) l b.size (λ k below. b.holds k (omega arith))

-- The loop is left at the last part, or at once where there is none.
pub returns-2 : goal.returns-2
returns-2 c =
    (all 185 _ _ (c.loop-at.at + 128) c.more_codes.ensures.0 (omega arith), all 233 _ _ (c.loop-at.at + 128) c.more_codes.ensures.1 (omega arith))

pub returns : goal.returns
returns c =
    (all 185 _ _ c.loop-at.at c.loop-at.invariant.2 (omega arith), all 233 _ _ c.loop-at.at c.loop-at.invariant.3 (omega arith))
