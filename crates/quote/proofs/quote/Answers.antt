-- Refused, nothing is written; else the quote at the front.
use mathlib.Core.Path.{sym, ◌∙◌}
use native.Mathlib.Nat.{zero-add}
use Rattle.check_digits.specs.Quote.{quote as quoteOf}
use Rattle.refusals.proofs.Numbers.{refused_not_0}
use Rattle.hash.proofs.Refusing.{written_refused, written_accepted}
use Rattle.quote.proofs.Refusals.{facts}
use Rattle.quote.proofs.quote.Goals as goal

pub returns-in_err-refusal-clause-out_after : goal.returns-in_err-refusal-clause-out_after
returns-in_err-refusal-clause-out_after c = sym (written_refused _ _ c.args.out.now (refused_not_0 _ _ c.in_err-refusal.ensures))

pub write-requires : goal.write-requires
write-requires c =
    let a = c.args in
    let f = facts a.width a.digest.now _ (sym c.in_ok-refusal.ensures) in
    (f.fits, f.enough)

pub returns-clause-out_after : goal.returns-clause-out_after
returns-clause-out_after c =
    let a = c.args in
    c.write.ensures.0 ∙ rw zero-add (sym (written_accepted _ (quoteOf a.digest.now) a.out.now (sym c.in_ok-refusal.ensures)))
