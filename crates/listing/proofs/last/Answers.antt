-- The last line is that of the case at hand: a digest has none.
use mathlib.Core.Bool.{false}
use mathlib.Core.Path.{sym, ap, ◌∙◌}
use Prim.Native.Nat.{ℕ}
use Rattle.text.specs.Text.{over}
use Rattle.text.proofs.Over.{over_nil}
use Rattle.tape.specs.declared.Next.{Next}
use Rattle.listing.specs.Ending.{end_text, end_line}
use borrow.Author.Rules.{rules}
use Rattle.listing.proofs.last.Goals as goal

pub returns-in-Taken : goal.returns-in-Taken
returns-in-Taken c =
    let a = c.args in
    let told = sym c.in-Taken.is in (
      ap (λ (n : Next). end_line n a.count) told,
      sym (over_nil a.text.now 0) ∙ ap (λ (n : Next). over a.text.now 0 (end_text n a.count)) told,
    )

pub returns-in-Ended : goal.returns-in-Ended
returns-in-Ended c =
    let call = c.ending-length in
    let a = c.args in
    let told = sym c.in-Ended.is in (
      ap (λ (k : ℕ). record { refusal = 0; length = k; next = 0; more = false }) call.ensures.0
          ∙ ap (λ (n : Next). end_line n a.count) told,
      call.ensures.1 ∙ ap (λ (n : Next). over a.text.now 0 (end_text n a.count)) told,
    )
