-- The number's columns, then the width's.
use mathlib.Core.Path.{sym, ap, subst, ◌∙◌}
use Prim.Native.Nat.{ℕ, ◌≤◌}
use lib.ListN.{length}
use Rattle.text.specs.Text.{over, decimal}
use Rattle.ledger.specs.Page.{front as frontOf}
use Rattle.page_lines.proofs.InTurn.{front_written}
use Rattle.page_lines.proofs.front.Goals as goal

pub returns : goal.returns
returns c =
    let a = c.args in
    let w = c.from.result in
    let narrow = subst (λ (v : ℕ). length (decimal v) ≤ 3) (sym c.from.ensures) c.requires.1 in
    let done =
    front_written a.text.now c.number-next.new.text c.number.new.text a.number w c.number-next.result c.number.result
    c.requires.0 narrow c.requires.2 c.number-next.ensures.0 c.number-next.ensures.1 c.number.ensures.0 c.number.ensures.1 in
    (done.0 ∙ ap (λ (v : ℕ). over a.text.now 0 (frontOf a.number v)) c.from.ensures, done.1)
