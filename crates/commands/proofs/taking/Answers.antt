-- TAKE: refused where no hash is open; its digest is another function's.
use mathlib.Core.Path.{refl}
use Rattle.reader.specs.declared.Command.TheVariants.{Take}
use Rattle.commands.specs.Effect.{effect}
use Rattle.commands.proofs.Steps.{none_open, take_open}
use Rattle.commands.proofs.taking.Goals as goal

pub returns-then-hash-eq0 : goal.returns-then-hash-eq0
unfolding effect
returns-then-hash-eq0 c = λ tape. none_open tape Take c.args.hash c.if-hash-eq0.true refl

pub returns : goal.returns
returns c = take_open c.args.hash c.if-hash-eq0.false
