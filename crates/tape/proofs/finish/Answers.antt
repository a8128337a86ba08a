-- The digest is taken into as many local bytes as are to be written, and copied from there.
use mathlib.Core.Bool.{cond}
use mathlib.Core.Path.{◌≡◌, refl, sym, subst, ◌∙◌}
use mathlib.Core.List.{◌++◌}
use Prim.Native.Nat.{ℕ, ◌≤◌}
use native.Mathlib.Omega.{arith}
use lib.Dec.{leb}
use lib.ListN.{length, drop, length-append, length-drop}
use lib.Seq.{length-take-le}
use Rattle.std.specs.Prelude.{Result, Ok, Err}
use Rattle.refusals.specs.declared.Refusal.{Refusal}
use Rattle.refusals.specs.Numbers.{number_of}
use Rattle.hash.specs.declared.Hash.{Hash}
use Rattle.hash.specs.Open.{taken_by}
use Rattle.tape.proofs.Finishing.{Copied, finish_none, finish_some}
use Rattle.tape.proofs.finish.Goals as goal

pub slice_bounds-digest-end : goal.slice_bounds-digest-end
slice_bounds-digest-end c = omega (arith, c.fitting-size.ensures.0, c.blank-digest.ensures)

pub slice_bounds-take-end : goal.slice_bounds-take-end
slice_bounds-take-end c =
    sym (length-take-le c.fitting-size.result c.blank-digest.result (omega (arith, c.fitting-size.ensures.0, c.blank-digest.ensures)))

pub slice_bounds-digest-end-2 : goal.slice_bounds-digest-end-2
slice_bounds-digest-end-2 c =
    let fitting = c.fitting-size in
    let blank = c.blank-digest in
    let inside : fitting.result ≤ length blank.result = omega (arith, fitting.ensures.0, blank.ensures) in
    let back = length-append c.take-taken.new.out (drop fitting.result blank.result) in
    let rest = length-drop fitting.result blank.result in
    omega (arith, fitting.ensures.0, blank.ensures, c.take-taken.auto.out, length-take-le fitting.result blank.result inside, back, rest)

pub slice_bounds-put-end : goal.slice_bounds-put-end
slice_bounds-put-end c =
    let fitting = c.fitting-size in
    let blank = c.blank-digest in
    let inside : fitting.result ≤ length blank.result = omega (arith, fitting.ensures.0, blank.ensures) in
    let back = length-append c.take-taken.new.out (drop fitting.result blank.result) in
    let rest = length-drop fitting.result blank.result in
    sym (length-take-le fitting.result (c.take-taken.new.out ++ drop fitting.result blank.result)
    (omega (arith, fitting.ensures.0, blank.ensures, c.take-taken.auto.out, length-take-le fitting.result blank.result inside, back, rest)))

pub put-requires : goal.put-requires
put-requires c =
    let fitting = c.fitting-size in
    let blank = c.blank-digest in
    let inside : fitting.result ≤ length blank.result = omega (arith, fitting.ensures.0, blank.ensures) in
    let back = length-append c.take-taken.new.out (drop fitting.result blank.result) in
    let rest = length-drop fitting.result blank.result in
    let room : fitting.result ≤ length (c.take-taken.new.out ++ drop fitting.result blank.result) =
    omega (arith, fitting.ensures.0, blank.ensures, c.take-taken.auto.out, length-take-le fitting.result blank.result inside, back, rest) in
    omega (arith, length-take-le fitting.result (c.take-taken.new.out ++ drop fitting.result blank.result) room, fitting.ensures.1)

-- The number of a take's answer is that of the definition.
taken_number : (hash : Hash) (answer : Result ℕ Refusal) → (taken_by hash answer).refusal ≡ number_of answer
taken_number hash (Ok n) = refl
taken_number hash (Err r) = refl

pub returns-then-number_of-ne0 : goal.returns-then-number_of-ne0
returns-then-number_of-ne0 c =
    let a = c.args in
    let fitting = c.fitting-size in
    let taken = c.take-taken.result in
    let copied : Copied a.hash a.out.now c.put.new.text (taken_by taken.hash taken.result) =
    record {
      room = c.blank-digest.result;
      part = c.take-taken.new.out;
      size = fitting.result;
      long = c.blank-digest.ensures;
      small = fitting.ensures.0;
      fit = subst (λ (v : ℕ). v ≤ 64 → fitting.result ≡ cond (leb v (length a.out.now)) v 0) c.wide.ensures fitting.ensures.2;
      answer = c.take-taken.ensures.0;
      took = c.take-taken.ensures.1;
      wrote = c.put.ensures.0;
    } in
    finish_none copied _ (λ none. c.if-number_of-ne0.true (c.number_of.ensures ∙ sym (taken_number taken.hash taken.result) ∙ none))

pub returns : goal.returns
returns c =
    let a = c.args in
    let fitting = c.fitting-size in
    let taken = c.take-taken.result in
    let copied : Copied a.hash a.out.now c.put.new.text (taken_by taken.hash taken.result) =
    record {
      room = c.blank-digest.result;
      part = c.take-taken.new.out;
      size = fitting.result;
      long = c.blank-digest.ensures;
      small = fitting.ensures.0;
      fit = subst (λ (v : ℕ). v ≤ 64 → fitting.result ≡ cond (leb v (length a.out.now)) v 0) c.wide.ensures fitting.ensures.2;
      answer = c.take-taken.ensures.0;
      took = c.take-taken.ensures.1;
      wrote = c.put.ensures.0;
    } in
    finish_some copied _ (taken_number taken.hash taken.result ∙ sym c.number_of.ensures ∙ c.if-number_of-ne0.false)
