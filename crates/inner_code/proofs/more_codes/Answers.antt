-- Place by place, both strings of codes are filled further.
use mathlib.Core.List.{List}
use Prim.Native.Nat.{ℕ, ◌+◌}
use native.Mathlib.Omega.{arith}
use lib.ListN.{length}
use Rattle.laws.proofs.Fill.{Filled, filled_more}
use Rattle.inner_code.specs.Codes.{coded}
use Rattle.inner_code.proofs.more_codes.Goals as goal

further : (c : ℕ) (y l : List ℕ) (at k : ℕ) → Filled 0 (length y) (coded c y) (at + k + 1) l → Filled 0 (length y) (coded c y) (at + (k + 1)) l
further c y l at k f = record { size = f.size; holds = λ j below. f.holds j (omega arith) }

pub loop-k-preserved : goal.loop-k-preserved
unfolding coded
loop-k-preserved c =
    let filled = c.loop-k.invariant in
    let from = c.args.at in
    let y = c.args.y.now in (
      further 185 y _ from c.loop-k.k (filled_more filled.0 (omega arith) c.code.ensures),
      further 233 y _ from c.loop-k.k (filled_more filled.1 (omega arith) c.code-in-loop-k.ensures),
    )
