-- The line is that of the run's first digest, or its last.
use mathlib.Core.Bool.{true}
use mathlib.Core.Path.{◌≡◌, sym, ap, ◌∙◌}
use Prim.Native.Nat.{◌+◌}
use native.Mathlib.Omega.{arith}
use borrow.Author.Rules.{rules}
use lib.ListN.{length, take}
use Rattle.simd.specs.Basic.{digest_bytes}
use Rattle.text.specs.Text.{over}
use Rattle.lines.specs.Lines.{digest_line}
use Rattle.listing.specs.Listing.{sealed}
use Rattle.listing.proofs.Lines.{Lent, lent, line_short, line_long, line_last, line_digest}
use Rattle.listing.proofs.next_line.Statement.{statement}
use Rattle.listing.proofs.next_line.Tie as tie

digest-lent :
    (c : tie.In-Taken) →
    let a = c.args in
    Lent a.tape.now a.at c.in-Taken.width c.in-Taken.next c.advance-found.new.out
digest-lent c =
    let call = c.advance-found in
    lent _ _ _ _ c.blank-digest.result _ c.blank-digest.ensures (sym c.in-Taken.is ∙ call.ensures.0) call.ensures.1

returns : tie.Need-returns-then-text-lt192
returns c =
    let a = c.args in
    line_short a.text.now a.count (sealed a.tape.now a.at) c.if-text-lt192.true

returns-2 : tie.Need-returns-then-tape-gt65536
returns-2 c =
    let a = c.args in
    let l = line_long a.tape.now a.at a.text.now a.count c.if-text-lt192.false c.if-tape-gt65536.true in
    (c.last.ensures.0 ∙ l.0, c.last.ensures.1 ∙ l.1)

returns-3 : tie.Need-returns-in_default
returns-3 c =
    let a = c.args in
    let l =
    line_last a.tape.now a.at a.text.now a.count c.if-text-lt192.false
    c.blank-digest.result c.advance-found.result _ _ c.if-tape-gt65536.false c.blank-digest.ensures
    c.in_default.is c.advance-found.ensures.0 in
    (c.last-in_default.ensures.0 ∙ l.0, c.last-in_default.ensures.1 ∙ l.1)

array-share-prefix-digest : tie.Need-slice_bounds-digest-end
array-share-prefix-digest c =
    let l = digest-lent c.before.before.before in
    omega (arith, c.wide-size.ensures, l.long, l.small.0)

slice-aggregate-digest-line : tie.Need-slice_bounds-digest_line-end
slice-aggregate-digest-line c =
    let l = digest-lent c.before.before.before.before in
    rw c.wide-size.ensures (sym l.size)

digest-line-requires : tie.Need-digest_line-length-requires
digest-line-requires c κs =
    let l = digest-lent c.before.before.before.before in
    rw c.wide-size.ensures (search rules, omega (arith, l.size, l.small.1), omega (arith, l.size, l.small.0))

returns-4 : tie.Need-returns
returns-4 c =
    let number = c.above.ensures in
    let size = c.wide-size.ensures in
    let a = c.args in
    let width = c.in-Taken.width in
    let buffer = c.advance-found.new.out in
    let l =
    line_digest a.tape.now a.at a.text.now a.count c.if-text-lt192.false (digest-lent c.before.before.before.before.before.before.before) c.if-tape-gt65536.false in
    let line :
    digest_line c.above.result width (take c.wide-size.result buffer)
    ≡ digest_line (a.count + 1) width (take (digest_bytes width) buffer) =
    λ i. digest_line (number i) width (take (size i) buffer) in
    let count = c.digest_line-length.ensures.1 ∙ ap length line in (
      (λ i. record { refusal = 0; length = count i; next = c.in-Taken.next; more = true }) ∙ l.0,
      c.digest_line-length.ensures.0 ∙ ap (over a.text.now 0) line ∙ l.1,
    )

pub next_line_spec : {M : Type 1} → statement M
next_line_spec =
    tie.close
    (tie.spec returns (λ c κs. search rules) (λ c. search rules) returns-2 (λ c κs. search rules) (λ c. search rules) (λ c κs. search rules) (λ c. search rules) (λ c. search rules) (λ c κs. search rules) (λ c. search rules) returns-3 (λ c κs. search rules) (λ c κs. search rules) array-share-prefix-digest slice-aggregate-digest-line digest-line-requires (λ c. search rules) returns-4)
