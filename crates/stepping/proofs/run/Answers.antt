-- A refusal leaves the lent bytes as they are. Otherwise state, block and output have their family's size, and the new state is written.
use mathlib.Core.List.{List, ◌++◌}
use mathlib.Core.Path.{◌≡◌, refl, sym, ap}
use Prim.Native.Nat.{ℕ, ◌≤◌}
use lib.ListN.{length, take, drop}
use lib.Seq.{length-take-le}
use Rattle.simd.specs.Basic.{Family, small, large, family_of, block_bytes}
use Rattle.refusals.proofs.Numbers.{refused_not_0}
use Rattle.expansion.proofs.Refused.{family_small, family_large}
use Rattle.block_steps.specs.Moved.{moved}
use Rattle.stepping.specs.Call.{steps_refusal}
use Rattle.stepping.proofs.Calls.{sizes, refused, accepted}
use Rattle.stepping.proofs.run.Goals as goal

pub returns-in_err-refusal-clause-out_after : goal.returns-in_err-refusal-clause-out_after
returns-in_err-refusal-clause-out_after c =
    let a = c.args in
    (refused (moved a.back) a.width a.last a.state.now a.block.now a.out.now c.in_err-refusal.ensures (refused_not_0 _ _ refl)).1

-- Where nothing is refused, state, block and the first bytes of the output have the family's size.
fits : (w : ℕ) (state block out : List ℕ) → 0 ≡ steps_refusal w (length state) (length block) (length out) → (f : Family) → family_of w ≡ f
    → (length state ≡ block_bytes f) × ((length block ≡ block_bytes f) × (length (take (block_bytes f) out) ≡ block_bytes f))
fits w state block out none f is =
    let all = sizes w (length state) (length block) (length out) f is (sym none) in
    (all.0, (all.1.0, length-take-le (block_bytes f) out all.1.1))

-- And the output has room for them.
room : (w : ℕ) (state block out : List ℕ) → 0 ≡ steps_refusal w (length state) (length block) (length out) → (f : Family) → family_of w ≡ f
    → block_bytes f ≤ length out
room w state block out none f is = (sizes w (length state) (length block) (length out) f is (sym none)).1.1

pub slice_bounds-run-end : goal.slice_bounds-run-end
slice_bounds-run-end c =
    let a = c.args in
    room a.width a.state.now a.block.now a.out.now c.in_ok-refusal.ensures small (family_small _ c.if-width-le256.true)

pub slice_bounds-run-end-then-width-le256 : goal.slice_bounds-run-end-then-width-le256
slice_bounds-run-end-then-width-le256 c =
    let a = c.args in
    sym (fits a.width a.state.now a.block.now a.out.now c.in_ok-refusal.ensures small (family_small _ c.if-width-le256.true)).1.1

pub run-requires : goal.run-requires
run-requires c =
    let a = c.args in
    fits a.width a.state.now a.block.now a.out.now c.in_ok-refusal.ensures small (family_small _ c.if-width-le256.true)

pub returns-then-width-le256-clause-out_after : goal.returns-then-width-le256-clause-out_after
returns-then-width-le256-clause-out_after c =
    let a = c.args in
    (accepted (moved a.back) a.width a.last a.state.now a.block.now a.out.now c.in_ok-refusal.ensures refl
    small (family_small _ c.if-width-le256.true) (ap (λ l. l ++ drop 64 a.out.now) c.run.ensures)).1

pub slice_bounds-run-end-2 : goal.slice_bounds-run-end-2
slice_bounds-run-end-2 c =
    let a = c.args in
    room a.width a.state.now a.block.now a.out.now c.in_ok-refusal.ensures large (family_large _ c.if-width-le256.false)

pub slice_bounds-run-end-3 : goal.slice_bounds-run-end-3
slice_bounds-run-end-3 c =
    let a = c.args in
    sym (fits a.width a.state.now a.block.now a.out.now c.in_ok-refusal.ensures large (family_large _ c.if-width-le256.false)).1.1

pub run-requires-2 : goal.run-requires-2
run-requires-2 c =
    let a = c.args in
    fits a.width a.state.now a.block.now a.out.now c.in_ok-refusal.ensures large (family_large _ c.if-width-le256.false)

pub returns-clause-out_after : goal.returns-clause-out_after
returns-clause-out_after c =
    let a = c.args in
    (accepted (moved a.back) a.width a.last a.state.now a.block.now a.out.now c.in_ok-refusal.ensures refl
    large (family_large _ c.if-width-le256.false) (ap (λ l. l ++ drop 128 a.out.now) c.run-2.ensures)).1
