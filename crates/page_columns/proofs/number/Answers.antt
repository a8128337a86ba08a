-- The digits, with the space behind them, are written over the last of the spaces.
use mathlib.Core.Path.{◌≡◌, refl, ap, ◌∙◌}
use mathlib.Core.List.{[], ◌∷◌, ◌++◌}
use Prim.Native.Nat.{ℕ, ◌+◌, ◌-◌}
use native.Mathlib.Omega.{arith}
use lib.ListN.{length, take, drop, replicate, length-append}
use lib.Seq.{take_at}
use Rattle.text.specs.Text.{decimal as decimalOf}
use Rattle.page_columns.proofs.Written.{number_written}
use Rattle.page_columns.proofs.number.Goals as goal

pub returns : goal.returns
returns c =
    let a = c.args in
    let count = c.decimal-count.result in
    let digits = decimalOf a.n ++ (32 ∷ []) in
    let size = length-append (decimalOf a.n) (32 ∷ []) in
    let counted : count ≡ length digits = omega (arith, c.decimal-count.ensures.1) in
    let shown : take count c.decimal-count.new.text ≡ digits =
    (λ i. take (counted i) (c.decimal-count.ensures.0 i)) ∙ take_at digits (drop (0 + length digits) (replicate 21 0)) (length digits) refl in (
      number_written a.text.now a.at a.columns a.n c.requires.0 c.requires.1 count (c.fill-end.result - count) _ _ _ counted
          (ap (λ (e : ℕ). e - count) c.fill-end.ensures.1) shown c.fill-end.ensures.0 c.put.ensures.0,
      omega (arith, ap length shown),
    )
