-- The chunks of the words are the rows.
use Rattle.std.proofs.Common.{◌≡◌, [], ◌/◌, length, get_or, ap, ◌∙◌, arith, rules}
use Rattle.std.proofs.Math.Nat.{mul-div_cancel}
use Rattle.std.proofs.lemmas.List.{get_or_read}
use Rattle.simd.specs.Basic.{table}
use Rattle.laws.proofs.Fill.{filled_more, filled_all}
use Rattle.laws.proofs.Table.{get_d_table}
use Rattle.matrix.specs.Rows.{row}
use Rattle.matrix.proofs.Rows.{chunks_rows}
use Rattle.matrix.proofs.in_rows.Goals as goal

pub loop-i-preserved : goal.loop-i-preserved
loop-i-preserved g c =
    let words = c.args.words.now in
    let r = g.row.R in
    let some = c.requires.0 in
    let count : length words / r ≡ 32 = ap (λ n. n / r) c.requires.1 ∙ mul-div_cancel 32 some in
    let rows = c.as_chunks.result.0.now in
    let are : rows ≡ table 32 (row r words) = rw (c.as_chunks.ensures.front, count) (chunks_rows r 32 words (omega arith)) in
    let i = c.loop-i.i in
    let turn = c.loop-i-test.true in
    filled_more c.loop-i.invariant (omega arith)
    (get_or_read rows i _ (omega (arith, count, c.as_chunks.ensures.front_len)) c.index-rows-i.is [] ∙ ap (λ l. get_or l i []) are ∙ get_d_table 32 (row r words) i [] turn)

pub returns : goal.returns
returns g c = filled_all c.loop-i.invariant (search rules)
