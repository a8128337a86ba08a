-- Below 32 a row of the expanded block, from 32 on a column of the old state.
use Rattle.trace_states.proofs.Between.{row_front, row_back}
use Rattle.trace_states.proofs.row.Goals as goal

pub returns-then-i-lt32 : goal.returns-then-i-lt32
returns-then-i-lt32 g c = row_front c.args.w.now c.args.old.now c.requires.0 c.args.i c.if-i-lt32.true

pub returns-else-i-lt32 : goal.returns-else-i-lt32
returns-else-i-lt32 g c = row_back c.args.w.now c.args.old.now c.requires.0 c.args.i c.if-i-lt32.false
