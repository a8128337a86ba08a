-- A starting state for each width; those of the small family are filled up with zeros.
use mathlib.Core.Path.{ap, ◌∙◌}
use native.Mathlib.Omega.{arith}
use Rattle.bits.specs.Zero.{padded}
use Rattle.hash_parts.proofs.Starting.{start_224, start_256, start_384, start_512}
use Rattle.hash_parts.proofs.start_state.Goals as goal

pub returns-in-224 : goal.returns-in-224
returns-in-224 c = let width = c.args.width in c.widen.ensures ∙ ap (padded 32) (c.start_224.ensures ∙ start_224 width c.in-224.is)

pub returns-in-256 : goal.returns-in-256
returns-in-256 c =
    let width = c.args.width in
    c.widen-in-256.ensures ∙ ap (padded 32) (c.start_256.ensures ∙ start_256 width (λ e. omega (arith, c.in-256.is)) c.in-256.is)

pub returns-in-384 : goal.returns-in-384
returns-in-384 c =
    let width = c.args.width in
    let is = c.in-384.is in
    c.start_384.ensures ∙ start_384 width (λ e. omega arith) (λ e. omega arith) is

pub returns-in_default : goal.returns-in_default
returns-in_default c =
    let width = c.args.width in
    c.start_512.ensures ∙ start_512 width (λ e. omega arith) (λ e. omega arith) (λ e. omega arith)
