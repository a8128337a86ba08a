-- In each branch the size that is answered fits both bounds.
use native.Mathlib.Omega.{arith}
use borrow.Author.Tests.{le-leb, lt-leb}
use Rattle.tape.proofs.fitting.Goals as goal

pub returns-then-size-gt64 : goal.returns-then-size-gt64
returns-then-size-gt64 c = (omega arith, omega arith, λ small. absurd (omega (arith, small, c.if-size-gt64.true)))

pub returns-then-size-room : goal.returns-then-size-room
returns-then-size-room c = (omega arith, omega arith, λ small. rw (le-leb _ _ c.if-size-room.true))

pub returns-else-size-room : goal.returns-else-size-room
returns-else-size-room c = (omega arith, omega arith, λ small. rw (lt-leb _ _ c.if-size-room.false))
