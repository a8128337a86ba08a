-- Each branch decides the tests of the definition in their order.
use borrow.Author.Tests.{eq-eqb, ne_eqb, le-leb, lt-leb}
use Rattle.stepping.specs.Call.{size_refusal}
use Rattle.stepping.proofs.size_refusal.Goals as goal

pub returns-then-state-size : goal.returns-then-state-size
unfolding size_refusal
returns-then-state-size c = simp (ne_eqb _ _ c.if-state-size.true)

pub returns-then-block-size : goal.returns-then-block-size
unfolding size_refusal
returns-then-block-size c = simp (eq-eqb _ _ c.if-state-size.false, ne_eqb _ _ c.if-block-size.true)

pub returns-then-room-size : goal.returns-then-room-size
unfolding size_refusal
returns-then-room-size c = simp (eq-eqb _ _ c.if-state-size.false, eq-eqb _ _ c.if-block-size.false, lt-leb _ _ c.if-room-size.true)

pub returns : goal.returns
unfolding size_refusal
returns c = simp (eq-eqb _ _ c.if-state-size.false, eq-eqb _ _ c.if-block-size.false, le-leb _ _ c.if-room-size.false)
