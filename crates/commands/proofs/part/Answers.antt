-- PART: refused where no hash is open, else what the feed of its first bits answers.
use mathlib.Core.Path.{refl, ap, subst, ◌∙◌}
use Prim.Native.Nat.{ℕ}
use native.Mathlib.Nat.{add-sub_cancel_left}
use borrow.Author.Rules.{rules}
use lib.ListN.{take, drop}
use Rattle.hash.specs.Open.{feed_answer}
use Rattle.reader.specs.declared.Command.TheVariants.{Part}
use Rattle.commands.specs.Effect.{effect}
use Rattle.commands.specs.Standing.{Obeys}
use Rattle.commands.specs.declared.Step.{Step}
use Rattle.commands.proofs.Steps.{none_open, part_fed, fed_step}
use Rattle.commands.proofs.part.Goals as goal

pub returns-then-hash-eq0 : goal.returns-then-hash-eq0
unfolding effect
returns-then-hash-eq0 c =
    let a = c.args in
    none_open a.tape.now (Part a.count a.place) a.hash c.if-hash-eq0.true refl

pub returns : goal.returns
returns c =
    let a = c.args in
    let fed = c.feed-fed.ensures ∙ ap (λ (k : ℕ). feed_answer a.hash (take k (drop a.place a.tape.now)) a.count) (add-sub_cancel_left a.place 32) in
    let step = part_fed a.tape.now a.place a.hash c.if-hash-eq0.false a.count _ c.requires (search rules) fed in
    rw c.number_of.ensures
    (subst (λ (s : Step). Obeys a.tape.now (Part a.count a.place) a.hash s) (fed_step c.feed-fed.result.hash c.feed-fed.result.result) step)
