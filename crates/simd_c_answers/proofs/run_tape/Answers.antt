-- The numbers are those of the run; its place is told only where it is refused.
use Rattle.simd_c_answers.specs.Calls.{run_within}
use Rattle.simd_c_answers.proofs.Laws.{tape_refused, tape_run}
use Rattle.simd_c_answers.proofs.run_tape.Goals as goal

pub returns-then-refusal-ne0 : goal.returns-then-refusal-ne0
unfolding run_within
returns-then-refusal-ne0 c =
    let all = tape_refused c.run-ran.ensures.0 c.run-ran.ensures.1 c.args.place.now c.if-refusal-ne0.true in
    record { value = all.0; out_after = all.1.0; count_after = all.1.1.0; place_after = all.1.1.1 }

pub returns-else-refusal-ne0 : goal.returns-else-refusal-ne0
unfolding run_within
returns-else-refusal-ne0 c =
    let all = tape_run c.run-ran.ensures.0 c.run-ran.ensures.1 c.args.place.now c.if-refusal-ne0.false in
    record { value = all.0; out_after = all.1.0; count_after = all.1.1.0; place_after = all.1.1.1 }
