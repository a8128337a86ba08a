-- Refused, nothing is written; else what the run leaves.
use mathlib.Core.Path.{refl, sym}
use Rattle.std.proofs.lemmas.Result.{err_from_is_err_and}
use Rattle.refusals.proofs.Numbers.{refused_not_0}
use Rattle.index.proofs.Accepted.{nothing_written, all_written}
use Rattle.index.proofs.reindex.Goals as goal

pub returns-in_err-reindex_refusal : goal.returns-in_err-reindex_refusal
returns-in_err-reindex_refusal c =
    let a = c.args in
    let p = err_from_is_err_and c.from_residual.result c.from_residual.ensures.1 in
    let all = nothing_written c.in_err-reindex_refusal.ensures (refused_not_0 _ _ refl) _ a.index.now _ a.out.now _ a.blocks.now in
    record { value = rw (p.1, p.2) all.0; index_after = all.1.0; out_after = all.1.1.0; blocks_after = all.1.1.1 }

pub corrected-requires : goal.corrected-requires
corrected-requires c = sym c.in_ok-reindex_refusal.ensures

pub returns : goal.returns
returns c =
    let a = c.args in
    let ran = c.corrected.ensures in
    let all = all_written c.in_ok-reindex_refusal.ensures _ a.index.now _ a.out.now _ a.blocks.now ran.index_after ran.out_after ran.blocks_after in
    record { value = all.0; index_after = all.1.0; out_after = all.1.1.0; blocks_after = all.1.1.1 }
