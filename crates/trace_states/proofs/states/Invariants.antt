-- Step by step, the lent words take the words of the state reached.
use Rattle.trace_states.proofs.Between.{Tracing}
use Rattle.trace_states.proofs.states.Given as goal

abbrev pub invariant-loop-i : goal.invariant-loop-i
invariant-loop-i g l = Tracing g.F.Rows.family l.last l.fn.state l.block l.w l.old l.initial.out l.out l.st l.i
