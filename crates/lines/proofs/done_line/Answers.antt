-- The count is written straight after the word.
use mathlib.Core.Path.{ap, ◌∙◌}
use native.Mathlib.Omega.{arith}
use lib.ListN.{length}
use Rattle.text.specs.Text.{over, decimal as decimalOf}
use Rattle.text.proofs.Over.{Wrote, wrote_more}
use Rattle.lines.specs.Lines.{done_word}
use Rattle.lines.proofs.Words.{spaced, ended, done_line_lem}
use Rattle.lines.proofs.done_line.Goals as goal

pub returns : goal.returns
returns c =
    let a = c.args in
    let t = a.text.now in
    let one : Wrote t (spaced done_word) c.put-next.new.text c.put-next.result = record { buffer = c.put-next.ensures.0; place = c.put-next.ensures.1 } in
    let all = wrote_more one (ended (decimalOf a.count)) c.decimal.ensures.0 c.decimal.ensures.1 (omega arith) in
    let whole = done_line_lem a.count in
    (all.buffer ∙ ap (over t 0) whole, all.place ∙ ap length whole)
