-- Refused, nothing is written; else the entry's lines at the front.
use mathlib.Core.Path.{sym, ◌∙◌}
use native.Mathlib.Nat.{zero-add}
use Rattle.ledger.specs.Page.{entry_lines}
use Rattle.refusals.proofs.Numbers.{refused_not_0}
use Rattle.hash.proofs.Refusing.{written_refused, written_accepted}
use Rattle.page.proofs.entry.Goals as goal

pub returns-in_err-refusal-clause-out_after : goal.returns-in_err-refusal-clause-out_after
returns-in_err-refusal-clause-out_after c = sym (written_refused _ _ c.args.out.now (refused_not_0 _ _ c.in_err-refusal.ensures))

pub print-requires : goal.print-requires
print-requires c = sym c.in_ok-refusal.ensures

pub returns-clause-out_after : goal.returns-clause-out_after
returns-clause-out_after c =
    let a = c.args in
    c.print.ensures
    ∙ rw zero-add (sym (written_accepted _ (entry_lines a.number a.width a.digest.now) a.out.now (sym c.in_ok-refusal.ensures)))
