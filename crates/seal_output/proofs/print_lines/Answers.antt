use Rattle.std.proofs.Common.{rules, arith, ◌≡◌, ◌++◌, ◌∙◌, subst, sym, ap, true, List, ℕ}
use borrow.Author.Tests.{not-false}
use Rattle.std.specs.Io.KnownBytes.{Appends}
use Rattle.std.proofs.KnownBytes.{Appends-nil, Appends-trans}
use Rattle.listing_theorems.proofs.Printing.{turn}
use Rattle.seal_output.proofs.Written.{none, grown}
use Rattle.seal_output.proofs.print_lines.Goals as goal

pub loop-at-init : goal.loop-at-init
loop-at-init g c =
    let start = none c.args.tape.now in
    let out = g.W.Write.contents c.args.out.now in
    (omega arith, start.0, subst (Appends out out) (sym start.1) (Appends-nil out))

pub slice_bounds-write-end : goal.slice_bounds-write-end
slice_bounds-write-end g c =
    let l = c.loop-at in
    let call = c.next_line-line in
    (turn c.args.tape.now l.text l.at l.count l.invariant.1 call.result call.new.text (omega arith) call.ensures.0 call.ensures.1 (omega arith)).room

pub slice_bounds-write-end-in-loop-at : goal.slice_bounds-write-end-in-loop-at
slice_bounds-write-end-in-loop-at g c =
    let l = c.loop-at in
    let call = c.next_line-line in
    (turn c.args.tape.now l.text l.at l.count l.invariant.1 call.result call.new.text (omega arith) call.ensures.0 call.ensures.1 (omega arith)).size

pub write-requires : goal.write-requires
write-requires g c =
    let l = c.loop-at in
    let call = c.next_line-line in
    (turn c.args.tape.now l.text l.at l.count l.invariant.1 call.result call.new.text (omega arith) call.ensures.0 call.ensures.1 (omega arith)).part

pub returns-then-not-line : goal.returns-then-not-line
returns-then-not-line g c =
    let l = c.loop-at in
    let call = c.next_line-line in
    let t = turn c.args.tape.now l.text l.at l.count l.invariant.1 call.result call.new.text (omega arith) call.ensures.0 call.ensures.1 (omega arith) in
    subst (Appends (g.W.Write.contents c.args.out.now) (g.W.Write.contents c.write.new.out)) (t.end (search rules))
    (Appends-trans _ _ _ _ _ l.invariant.2 c.in_ok-write.ensures)

pub loop-at-smaller : goal.loop-at-smaller
loop-at-smaller g c =
    let l = c.loop-at in
    let call = c.next_line-line in
    let t = turn c.args.tape.now l.text l.at l.count l.invariant.1 call.result call.new.text (omega arith) call.ensures.0 call.ensures.1 (omega arith) in
    let more : call.result.more ≡ true = not-false _ c.if-not-line.false in
    omega (arith, (t.more more).inside, t.forward more)

pub loop-at-preserved : goal.loop-at-preserved
loop-at-preserved g c =
    let l = c.loop-at in
    let call = c.next_line-line in
    let tape = c.args.tape.now in
    let t = turn tape l.text l.at l.count l.invariant.1 call.result call.new.text (omega arith) call.ensures.0 call.ensures.1 (omega arith) in
    let more : call.result.more ≡ true = not-false _ c.if-not-line.false in
    let printed = grown tape l.at l.count _ (omega arith) call.result call.ensures.0 more l.invariant.1 (t.more more) in (
      omega arith,
      t.more more,
      subst (Appends (g.W.Write.contents c.args.out.now) (g.W.Write.contents c.write.new.out))
          (ap (λ (line : List ℕ). l.invariant.1.printed ++ line) t.part ∙ sym printed)
          (Appends-trans _ _ _ _ _ l.invariant.2 c.in_ok-write.ensures),
    )
