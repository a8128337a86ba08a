-- A known width starts with its state and no bits.
use mathlib.Core.Path.{refl, sym, ◌∙◌}
use Rattle.simd.specs.Basic.{table, sum}
use Rattle.simd.specs.Message.{byte_of}
use Rattle.hash.proofs.Answers.{open_answered, open_refused}
use Rattle.hash.proofs.Hash.at.Goals as goal

pub returns-then-not-is_width : goal.returns-then-not-is_width
returns-then-not-is_width c = open_refused c.args.width (sym c.is_width.ensures ∙ c.if-not-is_width.true)

-- A tail with no bits is zeros.
pub returns : goal.returns
unfolding table byte_of sum
returns c =
    open_answered c.args.width c.start_state.result _ c.start_state.ensures refl (sym c.is_width.ensures ∙ c.if-not-is_width.false)
