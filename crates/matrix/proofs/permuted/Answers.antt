-- Row i becomes row P(i) of Z.
use Rattle.std.proofs.Common.{◌<◌, [], length, get_or, ap, ◌∙◌, arith, rules}
use Rattle.std.proofs.lemmas.List.{get_or_read}
use Rattle.laws.proofs.Fill.{filled_more, filled_all}
use Rattle.matrix.proofs.Rows.{order_lt}
use Rattle.matrix.proofs.permuted.Goals as goal

pub loop-i-preserved : goal.loop-i-preserved
loop-i-preserved g c =
    let rows = c.as_slice-rows.result.now in
    let i = c.loop-i.i in
    let inside : get_or c.order-p.result i 0 < length rows = omega (arith, order_lt i c.order-p.ensures (search rules), ap length c.as_slice-rows.ensures) in
    filled_more c.loop-i.invariant (omega arith)
    (get_or_read rows _ _ inside c.index-rows-p.is [] ∙ ap (λ p. get_or rows (get_or p i 0) []) c.order-p.ensures)

pub returns : goal.returns
returns g c = rw (← c.as_slice-rows.ensures) (filled_all c.loop-i.invariant (search rules))
