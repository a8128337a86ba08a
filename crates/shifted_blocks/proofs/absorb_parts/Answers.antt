use mathlib.Core.Path.{◌≡◌, sym, ap, ◌∙◌, subst}
use Prim.Native.Nat.{ℕ, min, ◌-◌}
use native.Mathlib.Omega.{arith}
use lib.ListN.{length, take, drop, replicate, length-replicate}
use Rattle.std.specs.Slice.Iter.{chunks_rest, chunks_size}
use Rattle.simd.specs.Basic.{family_of, state_words}
use Rattle.tail.proofs.Absorbing.{length_prefix}
use Rattle.shifted_blocks.proofs.Running.{Running, running_none, running_part}
use Rattle.shifted_blocks.proofs.absorb_parts.Goals as goal

pub loop-part-init : goal.loop-part-init
loop-part-init c =
    let a = c.args in
    let src = a.src.now in
    let f = family_of a.width in
    let same = c.into_iter-part-iterator.ensures.into_iter_gives in
    let left = chunks_rest c.into_iter-part-iterator.result in
    let all : left ≡ src = ap chunks_rest same ∙ c.chunks-part-items.ensures.rest in
    let none : length src - length left ≡ 0 = omega (arith, ap length all) in (
      ap chunks_size same ∙ c.chunks-part-items.ensures.size,
      all ∙ ap (λ (n : ℕ). drop n src) (sym none),
      subst (λ (at : ℕ). Running f (take (state_words f) a.state.now) a.scale a.carry src at a.state.now (replicate 1024 0) a.carry) (sym none)
          (running_none f a.scale a.carry src a.state.now (replicate {A = ℕ} 1024 0) c.requires.0 (length-replicate {A = ℕ} 1024 0)),
    )

pub loop-part-preserved : goal.loop-part-preserved
loop-part-preserved c =
    let a = c.args in
    let l = c.loop-part in
    let f = family_of a.width in
    let part = c.absorb_part-held in
    let step = c.in-Some.ensures.steps in
    let size : length c.in-Some.part.now ≡ min 1024 (length (chunks_rest l.part-iterator)) =
    step.1.1 ∙ ap (λ (n : ℕ). min n (length (chunks_rest l.part-iterator))) l.invariant.0 in
    let next =
    running_part f (take (state_words f) a.state.now) (length_prefix f a.state.now c.requires.0) a.scale a.carry a.src.now c.requires.2
    l.state l.buffer l.held (chunks_rest l.part-iterator) c.in-Some.part.now (chunks_rest c.next.new.self)
    part.new.state part.new.buffer part.result l.invariant.1 step.1.0 size l.invariant.2
    part.ensures.came part.ensures.carried (part.auto.buffer ∙ l.invariant.2.room) in
    (step.0 ∙ l.invariant.0, next.0, next.1)
