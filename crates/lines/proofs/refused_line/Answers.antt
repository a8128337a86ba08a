-- Each word is written straight after those before it.
use mathlib.Core.Path.{ap, ◌∙◌}
use Prim.Native.Nat.{ℕ}
use native.Mathlib.Omega.{arith}
use lib.ListN.{length}
use Rattle.text.specs.Text.{over, decimal as decimalOf}
use Rattle.text.proofs.Over.{Wrote, wrote_more}
use Rattle.lines.specs.Lines.{refused_word, at_word, refused_line}
use Rattle.lines.proofs.Words.{spaced, ended, refused_line_lem}
use Rattle.lines.proofs.refused_line.Goals as goal

pub returns : goal.returns
returns c =
    let a = c.args in
    let t = a.text.now in
    let one : Wrote t (spaced refused_word) c.put-next.new.text c.put-next.result = record { buffer = c.put-next.ensures.0; place = c.put-next.ensures.1 } in
    let two = wrote_more one (spaced (decimalOf c.from.result)) c.decimal-next.ensures.0 c.decimal-next.ensures.1 (omega arith) in
    let three = wrote_more two (spaced at_word) c.put-next-2.ensures.0 c.put-next-2.ensures.1 (omega arith) in
    let all = wrote_more three (ended (decimalOf a.place)) c.decimal.ensures.0 c.decimal.ensures.1 (omega arith) in
    let whole = refused_line_lem c.from.result a.place ∙ ap (λ (n : ℕ). refused_line n a.place) c.from.ensures in
    (all.buffer ∙ ap (over t 0) whole, all.place ∙ ap length whole)
