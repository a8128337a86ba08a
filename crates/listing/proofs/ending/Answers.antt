-- The line of a run that ended: by its number, done or refused.
use mathlib.Core.Path.{◌≡◌, ap, ◌∙◌}
use borrow.Author.Tests.{eq-eqb, ne_eqb}
use lib.ListN.{length}
use Rattle.text.specs.Text.{over}
use Rattle.lines.specs.Lines.{done_line, refused_line}
use Rattle.listing.specs.Listing.{last_line}
use borrow.Author.Rules.{rules}
use Rattle.listing.proofs.ending.Goals as goal

pub returns-then-number-eq0 : goal.returns-then-number-eq0
returns-then-number-eq0 c =
    let a = c.args in
    let call = c.done_line in
    let this : done_line a.count ≡ last_line a.count a.number a.place =
    rw (eq-eqb a.number 0 c.if-number-eq0.true) in
    (call.ensures.1 ∙ ap length this, call.ensures.0 ∙ ap (over a.text.now 0) this)

pub returns : goal.returns
returns c =
    let a = c.args in
    let call = c.refused_line in
    let this : refused_line a.number a.place ≡ last_line a.count a.number a.place =
    rw (ne_eqb a.number 0 c.if-number-eq0.false) in
    (call.ensures.1 ∙ ap length this, call.ensures.0 ∙ ap (over a.text.now 0) this)
