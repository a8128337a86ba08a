-- Two bytes, one straight after the other.
use mathlib.Core.Path.{sym, ◌∙◌}
use mathlib.Core.List.{[]}
use Prim.Native.Nat.{◌+◌}
use native.Mathlib.Omega.{arith}
use lib.ListN.{set}
use Rattle.text.proofs.Over.{over_nil, over_pair}
use Rattle.check_digits.specs.Quote.{two_digits}
use Rattle.quote_text.proofs.two_digits.Goals as goal

pub returns : goal.returns
unfolding two_digits
returns c =
    let a = c.args in
    let t = a.text.now in
    (λ k. set (set (sym (over_nil t a.at) k) a.at (c.digit.ensures k)) (a.at + 1) (c.digit-2.ensures k))
    ∙ over_pair t a.at [] _ _ a.at (omega arith) (omega arith)
