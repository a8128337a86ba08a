-- The last digit stands after those of a tenth of the number, of which there may be one fewer.
use mathlib.Core.Path.{sym, ap, ◌∙◌}
use mathlib.Core.List.{[], ◌∷◌}
use Prim.Native.Nat.{◌+◌, ◌-◌, ◌/◌, ◌%◌}
use native.Mathlib.Omega.{arith}
use lib.ListN.{length, set, length-append}
use Rattle.text.specs.Text.{over, digits as digitsOf}
use Rattle.text.proofs.Over.{over_nil, over_byte}
use Rattle.text.proofs.Words.{digits_le, digits_none, digits_last, digits_more}
use Rattle.text.proofs.+digits.Goals as goal

pub returns-then-most-eq0 : goal.returns-then-most-eq0
returns-then-most-eq0 t c =
    let a = c.args in
    let none = digits_none a.most a.n c.if-most-eq0.true in
    (sym (over_nil a.text.now a.at) ∙ ap (over a.text.now a.at) (sym none), omega (arith, ap length none), omega arith)

pub returns-then-n-lt10 : goal.returns-then-n-lt10
returns-then-n-lt10 t c =
    let a = c.args in
    let x = a.text.now in
    let last = digits_last a.most a.n c.if-n-lt10.true (omega arith) in (
      (λ i. set (sym (over_nil x a.at) i) a.at (c.digit.ensures i))
          ∙ over_byte x a.at [] (48 + a.n) a.at (omega arith) (omega arith)
          ∙ ap (over x a.at) (sym last),
      omega (arith, ap length last),
      omega arith,
    )

pub returns : goal.returns
returns t c =
    let a = c.args in
    let x = a.text.now in
    let call = c.digits-next in
    let front = digitsOf (a.most - 1) (a.n / 10) in
    let more = digits_more a.most a.n c.if-n-lt10.false (omega arith) in
    let count = digits_le (a.most - 1) (a.n / 10) in (
      (λ i. set (call.ensures.0 i) call.result (c.digit-2.ensures i))
          ∙ over_byte x a.at front (48 + a.n % 10) call.result call.ensures.1 (omega (arith, call.ensures.1))
          ∙ ap (over x a.at) (sym more),
      omega (arith, ap length more, length-append front ((48 + a.n % 10) ∷ []), call.ensures.1),
      omega (arith, call.ensures.1),
    )
