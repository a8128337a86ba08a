use Rattle.std.proofs.Common.{ℕ, arith}
use Rattle.std.proofs.lemmas.List.{length-replicate}
use Rattle.trace_states.proofs.Between.{tracing_none, tracing_room, tracing_more, tracing_all}
use Rattle.trace_states.proofs.states.Goals as goal

pub loop-i-init : goal.loop-i-init
loop-i-init g c =
    let read = rw (length-replicate {A = ℕ} g.row.W 0, ← g.met.F.Family.has_words) at c.read.ensures in
    tracing_none (omega arith) read c.expand-w.ensures c.split-old.ensures c.mixed.ensures c.split-st.ensures

pub put_row-requires : goal.put_row-requires
put_row-requires g c =
    rw (← g.met.F.Family.has_words) (tracing_room c.loop-i.invariant (omega arith) c.step-st.result c.flat-words.ensures)

pub loop-i-preserved : goal.loop-i-preserved
loop-i-preserved g c =
    let put = rw (← g.met.F.Family.has_words) at c.put_row.ensures in
    tracing_more c.loop-i.invariant (omega arith) c.row-row.ensures c.step-st.ensures c.flat-words.ensures put

pub returns : goal.returns
returns g c = tracing_all c.loop-i.invariant (omega arith)
