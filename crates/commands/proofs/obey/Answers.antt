-- In each arm the command is the arm's.
use mathlib.Core.List.{List}
use mathlib.Core.Path.{◌≡◌, sym, subst}
use Prim.Native.Nat.{ℕ}
use Rattle.hash.specs.declared.Hash.{Hash}
use Rattle.reader.specs.declared.Command.{Command}
use Rattle.reader.specs.Reading.{Inside}
use Rattle.commands.specs.Standing.{Obeys}
use Rattle.commands.specs.declared.Step.{Step}
use Rattle.commands.proofs.Steps.{stop_open}
use Rattle.commands.proofs.obey.Goals as goal

-- The step of an arm is that of the command.
by_arm :
    (tape : List ℕ) (hash : Hash) {command arm : Command} (step : Step) → command ≡ arm → Obeys tape arm hash step → Obeys tape command hash step
by_arm tape hash step told = subst (λ (k : Command). Obeys tape k hash step) (sym told)

pub full-requires : goal.full-requires
full-requires c = subst (Inside c.args.tape.now) c.in-Full.is c.requires

pub part-requires : goal.part-requires
part-requires c = subst (Inside c.args.tape.now) c.in-Part.is c.requires

pub returns-in-Open : goal.returns-in-Open
returns-in-Open c = by_arm c.args.tape.now c.args.hash c.opening.result c.in-Open.is (c.opening.ensures c.args.tape.now)

pub returns-in-Full : goal.returns-in-Full
returns-in-Full c = by_arm c.args.tape.now c.args.hash c.full.result c.in-Full.is c.full.ensures

pub returns-in-Part : goal.returns-in-Part
returns-in-Part c = by_arm c.args.tape.now c.args.hash c.part.result c.in-Part.is c.part.ensures

pub returns-in-Take : goal.returns-in-Take
returns-in-Take c = by_arm c.args.tape.now c.args.hash c.taking.result c.in-Take.is (c.taking.ensures c.args.tape.now)

pub returns-in-Stop : goal.returns-in-Stop
returns-in-Stop c = by_arm c.args.tape.now c.args.hash _ c.in-Stop.is (stop_open c.args.tape.now c.args.hash)
