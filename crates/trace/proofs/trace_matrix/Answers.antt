-- Refused as `expansion::expand` is; else what is traced stands in the front of the output.
use Rattle.std.proofs.Common.{refl}
use Rattle.refusals.proofs.Numbers.{refused_not_0}
use Rattle.trace_values.specs.Values.{matrix_words}
use Rattle.trace.proofs.Laws.{trace_refused, trace_sizes, trace_accepted}
use Rattle.trace.proofs.trace_matrix.Goals as goal

pub matrix_words-requires : goal.matrix_words-requires
matrix_words-requires c = let a = c.args in trace_sizes matrix_words a.width a.last a.block.now a.out.now c.in-Ok.ensures refl

pub returns-in-Ok-clause-out_after : goal.returns-in-Ok-clause-out_after
returns-in-Ok-clause-out_after c =
    let a = c.args in
    (trace_accepted matrix_words a.width a.last a.block.now a.out.now c.in-Ok.ensures refl c.matrix_words.ensures).1

pub returns-in-Err-clause-out_after : goal.returns-in-Err-clause-out_after
returns-in-Err-clause-out_after c =
    let a = c.args in
    (trace_refused matrix_words a.width a.last a.block.now a.out.now c.in-Err.ensures (refused_not_0 c.in-Err.refusal _ refl)).1
