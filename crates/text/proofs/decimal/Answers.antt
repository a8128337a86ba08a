-- The byte after the number stands where its digits end.
use mathlib.Core.Path.{ap, ◌∙◌}
use mathlib.Core.List.{List, [], ◌∷◌}
use Prim.Native.Nat.{ℕ}
use native.Mathlib.Omega.{arith}
use lib.ListN.{set, length-append}
use Rattle.text.specs.Text.{decimal as decimalOf}
use Rattle.text.proofs.Over.{over_byte}
use Rattle.text.proofs.decimal.Goals as goal

pub returns : goal.returns
unfolding decimalOf
returns c =
    let a = c.args in
    let call = c.digits-next in (
      ap (λ (x : List ℕ). set x call.result a.end) call.ensures.0
          ∙ over_byte a.text.now a.at (decimalOf a.n) a.end call.result call.ensures.1 (omega arith),
      omega (arith, length-append (decimalOf a.n) (a.end ∷ []), call.ensures.1),
      omega arith,
    )
