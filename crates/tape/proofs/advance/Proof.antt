-- Until a TAKE the run from the start is the run from the place reached, with what is open there.
use mathlib.Core.Path.{◌≡◌, refl, sym, ap, ◌∙◌}
use Prim.Native.Nat.{◌-◌}
use native.Mathlib.Omega.{arith}
use borrow.Author.Rules.{rules}
use lib.ListN.{length}
use Rattle.reader.specs.declared.Reading.TheVariants.{Found}
use Rattle.reader.specs.Reading.{read_at}
use Rattle.reader.proofs.Laws.{read_next, read_inside}
use Rattle.tape.specs.Standing.{end_of}
use Rattle.tape.proofs.Reached.{Reached, reached_none, Obeyed, answers_refused, answers_step, answers_take, answers_stop, reached_next}
use Rattle.tape.proofs.advance.Statement.{statement}
use Rattle.tape.proofs.advance.Tie as tie

abbrev invariant-loop : tie.invariant-loop-command
invariant-loop tape from out₀ at₀ hash₀ out at hash = (out ≡ out₀) × Reached tape from at hash

abbrev decreases-loop : tie.decreases-loop-command
decreases-loop tape from out₀ at₀ hash₀ out at hash = length tape - at

found :
    (c : tie.In-Found invariant-loop decreases-loop) →
    read_at c.args.tape.now c.loop-command.at ≡ Found c.in-Found.command c.in-Found.after
found c = sym c.read-reading.ensures ∙ c.in-Found.is

obeyed :
    (c : tie.After-obey-step invariant-loop decreases-loop) →
    let l = c.loop-command in
    let a = c.args in
    Obeyed a.tape.now a.from l.at l.hash c.in-Found.command c.in-Found.after c.obey-step.result
obeyed c = record { reached = c.loop-command.invariant.1; found = found c.before; obeys = c.obey-step.ensures }

loop-holds : tie.Need-loop-command-init invariant-loop decreases-loop
loop-holds c =
    let a = c.args in
    (refl, reached_none a.tape.now a.from c.none-hash.result c.none-hash.ensures)

returns : tie.Need-returns-in_default invariant-loop decreases-loop
returns c =
    let told = c.in_default.is in
    let read = c.read-reading.ensures in
    let done = answers_refused c.loop-command.invariant.1 _ _ c.args.out.now (sym read ∙ told) in
    (c.refused.ensures ∙ ap end_of told ∙ done.answer, c.loop-command.invariant.0 ∙ done.buffer)

obey-requires : tie.Need-obey-step-requires invariant-loop decreases-loop
obey-requires c κs = read_inside _ _ _ _ (found c)

returns-2 : tie.Need-returns-then-number-ne0 invariant-loop decreases-loop
returns-2 c =
    let done = answers_step (obeyed c.before) c.if-number-ne0.true c.args.out.now in
    (done.answer, c.loop-command.invariant.0 ∙ done.buffer)

finish-requires : tie.Need-finish-requires invariant-loop decreases-loop
finish-requires c κs =
    let there = read_next _ _ _ _ (found c.before.before.before.before.before) in
    omega (arith, there.0, there.1, c.well_formed)

returns-3 : tie.Need-returns-in-Take invariant-loop decreases-loop
returns-3 c =
    let finished = rw c.loop-command.invariant.0 at c.finish.ensures in
    let done =
    answers_take (obeyed c.before.before.before.before.before.before.before) c.in-Take.is c.if-number-ne0.false
    c.args.out.now c.finish.new.out c.finish.result finished in
    (done.answer, done.buffer)

returns-4 : tie.Need-returns-in-Stop invariant-loop decreases-loop
returns-4 c =
    let done = answers_stop (obeyed c.before.before.before) c.in-Stop.is c.args.out.now in
    (done.answer, c.loop-command.invariant.0 ∙ done.buffer)

loop-less : tie.Need-loop-command-smaller invariant-loop decreases-loop
loop-less c =
    let there = read_next _ _ _ _ (found c.before.before.before.before) in
    omega (arith, there.0, there.1)

loop-again : tie.Need-loop-command-preserved invariant-loop decreases-loop
loop-again c =
    (c.loop-command.invariant.0, reached_next (obeyed c.before.before.before) c.in_default-command.in_default-command-own.keys3 c.if-number-ne0.false)

pub advance_spec : {M : Type 1} → statement M
advance_spec =
    tie.close
    (tie.spec invariant-loop decreases-loop (λ c κs. search rules) loop-holds (λ c κs. search rules) (λ c. search rules) (λ c. search rules) (λ c κs. search rules) (λ c. search rules) returns obey-requires (λ c. search rules) returns-2 (λ c. search rules) finish-requires (λ c. search rules) returns-3 (λ c. search rules) (λ c. search rules) returns-4 loop-less loop-again)
