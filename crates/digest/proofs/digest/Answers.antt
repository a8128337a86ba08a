-- Refused, nothing is written; else the first bytes of the state after the length block, which are the digest.
use mathlib.Core.List.{List}
use mathlib.Core.Path.{◌≡◌, refl, sym, ap, ◌∙◌}
use Prim.Native.Nat.{ℕ, ◌-◌}
use native.Mathlib.Omega.{arith}
use borrow.Author.Rules.{rules}
use lib.ListN.{length, length-take}
use Rattle.simd.specs.Basic.{family_of}
use Rattle.simd.specs.Message.{message}
use Rattle.simd.specs.Hash.{digest}
use Rattle.tail.proofs.Sizes.{words_within}
use Rattle.hash.specs.Open.{written}
use Rattle.hash.proofs.Digests.{digest_room, digest_words}
use Rattle.hash.proofs.Refusing.{written_refused}
use Rattle.refusals.proofs.Numbers.{refused_not_0}
use Rattle.digest.specs.Call.{digest_refusal}
use Rattle.digest.proofs.Whole.{Accepted, accepted, digest_written}
use Rattle.digest.proofs.digest.Goals as goal

pub returns-in_err-refusal-clause-out_after : goal.returns-in_err-refusal-clause-out_after
returns-in_err-refusal-clause-out_after c = sym (written_refused _ _ c.args.out.now (refused_not_0 _ _ c.in_err-refusal.ensures))

-- What holds of a call that is not refused.
good : (width : ℕ) (bytes : List ℕ) (count room : ℕ) → 0 ≡ digest_refusal width bytes count room → Accepted width bytes count room
good width bytes count room none = accepted width bytes count room 0 none refl

pub conclude-requires : goal.conclude-requires
conclude-requires c =
    let a = c.args in
    (search rules, omega (arith, (good a.width a.message.now a.count _ c.in_ok-refusal.ensures).whole.within))

pub slice_bounds-write_words-end : goal.slice_bounds-write_words-end
slice_bounds-write_words-end c =
    let a = c.args in
    omega (arith, (good a.width a.message.now a.count _ c.in_ok-refusal.ensures).enough, c.digest_bytes-length.ensures)

pub write_words-requires : goal.write_words-requires
write_words-requires c =
    let a = c.args in
    let d = c.digest_bytes-length in
    let known = (good a.width a.message.now a.count _ c.in_ok-refusal.ensures).known in
    omega (
      arith,
      (good a.width a.message.now a.count _ c.in_ok-refusal.ensures).enough,
      length-take (d.result - 0) a.out.now,
      d.ensures,
      digest_room a.width known,
      digest_words a.width known,
      words_within (family_of a.width),
    )

pub returns-clause-out_after : goal.returns-clause-out_after
returns-clause-out_after c =
    let w = c.write_words in
    let a = c.args in
    let begun = c.start_state-state in
    let none = c.in_ok-refusal.ensures in
    digest_written a.width a.message.now a.count (length a.out.now) (good a.width a.message.now a.count _ none) c.digest_bytes-length.result
    c.digest_bytes-length.ensures a.out.now begun.result c.conclude.new.state w.new.out refl begun.ensures c.conclude.ensures w.ensures
    ∙ ap (λ (r : ℕ). written r (digest a.width (message a.message.now a.count)) a.out.now) none
