-- The digests so far stand at the front of the output, and the rest of the run follows from the place reached.
use mathlib.Core.Path.{◌≡◌, sym, ap, ◌∙◌}
use Prim.Native.Nat.{◌-◌}
use native.Mathlib.Omega.{arith}
use borrow.Author.Rules.{rules}
use lib.ListN.{length}
use Rattle.tape.specs.Standing.{close_of}
use Rattle.tape.specs.declared.Next.{Next}
use Rattle.tape.proofs.Done.{Done, done_none, done_more, done_end, later, Advanced, advanced}
use Rattle.tape.proofs.run.Statement.{statement}
use Rattle.tape.proofs.run.Tie as tie

abbrev invariant-loop : tie.invariant-loop-width
invariant-loop tape out₀ at₀ used₀ digests₀ out at used digests = Done tape out₀ out at used digests

abbrev decreases-loop : tie.decreases-loop-width
decreases-loop tape out₀ at₀ used₀ digests₀ out at used digests = length tape - at

came :
    (c : tie.After-advance-found invariant-loop decreases-loop) {next : Next} → c.advance-found.result ≡ next →
    let l = c.loop-width in
    Advanced c.args.tape.now l.out l.at l.used c.advance-found.new.out next
came c told = advanced _ _ _ _ _ told c.advance-found.ensures.0 c.advance-found.ensures.1

loop-holds : tie.Need-loop-width-init invariant-loop decreases-loop
loop-holds c = done_none c.args.tape.now c.args.out.now

returns : tie.Need-returns-in_default invariant-loop decreases-loop
returns c =
    let told = c.in_default.is in
    let l = c.loop-width in
    let done = done_end l.invariant (came c.before.before.before.before told) in
    (c.closing.ensures ∙ ap (λ (n : Next). close_of n l.digests) told ∙ done.0, done.1)

loop-less : tie.Need-loop-width-smaller invariant-loop decreases-loop
loop-less c =
    let more = later c.loop-width.invariant (came c.before.before.before.before c.in-Taken.is) in
    omega (arith, more.0, more.1)

loop-again : tie.Need-loop-width-preserved invariant-loop decreases-loop
loop-again c =
    rw c.wide-used.ensures (done_more c.loop-width.invariant (came c.before.before.before.before c.in-Taken.is))

pub run_spec : {M : Type 1} → statement M
run_spec =
    tie.close
    (tie.spec invariant-loop decreases-loop loop-holds (λ c. search rules) (λ c. search rules) (λ c. search rules) (λ c κs. search rules) (λ c. search rules) (λ c. search rules) (λ c κs. search rules) (λ c. search rules) returns (λ c κs. search rules) (λ c. search rules) (λ c. search rules) loop-less loop-again)
