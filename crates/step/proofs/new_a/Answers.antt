-- Word by word, new A.
use Rattle.std.proofs.Common.{sym, ap, ◌∙◌, arith}
use Rattle.simd.specs.Basic.{table}
use Rattle.laws.proofs.Fill.{filled_all}
use Rattle.words.specs.Columns.{word_a, new_a}
use Rattle.step.proofs.new_a.Goals as goal

pub returns : goal.returns
unfolding new_a
returns g c =
    let p = c.args in
    filled_all c.loop-j.invariant (omega arith)
    ∙ ap (λ n. table n (word_a g.F.Rows.family p.i p.s p.x p.w.now p.b.now p.st.now)) (sym g.met.F.Rows.has_rows)
