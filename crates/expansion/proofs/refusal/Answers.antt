-- An unknown width is refused first; then the sizes of its family decide.
use mathlib.Core.Path.{sym, ◌∙◌}
use Rattle.simd.specs.Basic.{small, large}
use Rattle.expansion.proofs.Refused.{family_small, family_large, unknown, known}
use Rattle.expansion.proofs.refusal.Goals as goal

pub returns-then-not-is_width : goal.returns-then-not-is_width
returns-then-not-is_width c =
    let a = c.args in
    sym (unknown a.width a.bytes a.room (sym c.is_width.ensures ∙ c.if-not-is_width.true))

pub returns-then-width-le256 : goal.returns-then-width-le256
returns-then-width-le256 c =
    let a = c.args in
    c.size_refusal.ensures
    ∙ sym (known a.width a.bytes a.room small (sym c.is_width.ensures ∙ c.if-not-is_width.false) (family_small a.width c.if-width-le256.true))

pub returns : goal.returns
returns c =
    let a = c.args in
    c.size_refusal-2.ensures
    ∙ sym (known a.width a.bytes a.room large (sym c.is_width.ensures ∙ c.if-not-is_width.false) (family_large a.width c.if-width-le256.false))
