-- Word by word, new B.
use Rattle.std.proofs.Common.{◌*◌, ◌%◌, ◌^◌, get_or, sym, ap, ◌∙◌, arith}
use Rattle.simd.specs.Basic.{table}
use Rattle.simd.specs.Steps.{rotl}
use Rattle.laws.proofs.Fill.{filled_all}
use Rattle.laws.proofs.Table.{get_d_table}
use Rattle.words.specs.Columns.{new_b}
use Rattle.step.proofs.rotated.Goals as goal

pub turned-requires : goal.turned-requires
turned-requires g c =
    let p = c.args in
    let j = c.loop-j.j in
    ap (λ l. get_or l j 0) c.requires ∙ get_d_table g.row.R (λ j. get_or p.a j 0 * 2 ^ (p.r % 32) % 2 ^ 32) j 0 (omega arith)

pub returns : goal.returns
unfolding new_b
returns g c =
    let p = c.args in
    filled_all c.loop-j.invariant (omega arith) ∙ ap (λ n. table n (λ j. rotl (p.r % 32) (get_or p.a j 0))) (sym g.met.F.Rows.has_rows)
