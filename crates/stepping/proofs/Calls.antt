-- The refusal and the output of the two calls.
use mathlib.Core.Bool.{Bool, true, false, cond}
use mathlib.Core.List.{List, ◌++◌}
use mathlib.Core.Path.{◌≡◌, refl, sym, ap, ◌∙◌}
use Prim.Native.Nat.{ℕ, suc, ◌≤◌}
use native.Mathlib.Omega.{arith}
use lib.Dec.{leb, eqb}
use lib.ListN.{length, drop}
use borrow.Author.Tests.{eq-eqb, ne_eqb, eqb-true, leb-true}
use Rattle.simd.specs.Basic.{Family, is_width, family_of, block_bytes}
use Rattle.stepping.specs.Call.{size_refusal, steps_refusal, steps_output}

-- Refusals, by whether the width is known and by its family.
pub unknown : (w s b room : ℕ) → is_width w ≡ false → steps_refusal w s b room ≡ 1
unfolding steps_refusal
unknown w s b room other = ap (λ k. cond k (size_refusal (block_bytes (family_of w)) s b room) 1) other

pub known : (w s b room : ℕ) (f : Family) → is_width w ≡ true → family_of w ≡ f → steps_refusal w s b room ≡ size_refusal (block_bytes f) s b room
unfolding steps_refusal
known w s b room f yes-width is =
    ap (λ k. cond k (size_refusal (block_bytes (family_of w)) s b room) 1) yes-width ∙ ap (λ g. size_refusal (block_bytes g) s b room) is

taken : (k : Bool) (a n : ℕ) → cond k a (suc n) ≡ 0 → (k ≡ true) × (a ≡ 0)
taken true a n e = (refl, e)
taken false a n e = absurd (omega arith)

-- Where nothing is refused, the width is known, and state, block and output have their sizes.
pub width_known : (w s b room : ℕ) → steps_refusal w s b room ≡ 0 → is_width w ≡ true
unfolding steps_refusal
width_known w s b room allowed = (taken (is_width w) (size_refusal (block_bytes (family_of w)) s b room) 0 allowed).0

pub sizes : (w s b room : ℕ) (f : Family) → family_of w ≡ f → steps_refusal w s b room ≡ 0
    → (s ≡ block_bytes f) × ((b ≡ block_bytes f) × (block_bytes f ≤ room))
unfolding steps_refusal size_refusal
sizes w s b room f is allowed =
    let size = block_bytes (family_of w) in
    let sized = (taken (is_width w) (size_refusal size s b room) 0 allowed).1 in
    let first = taken (eqb s size) (cond (eqb b size) (cond (leb size room) 0 6) 7) 6 sized in
    let second = taken (eqb b size) (cond (leb size room) 0 6) 6 first.1 in
    let third = taken (leb size room) 0 5 second.1 in
    (eqb-true s size first.0 ∙ ap block_bytes is, (eqb-true b size second.0 ∙ ap block_bytes is, rw is at (leb-true size room third.0)))

-- What a call answers and leaves in the lent bytes, where refusal answers n: all as it was, or the new state and the remaining bytes.
module _ (run : Family → Bool → List ℕ → List ℕ → List ℕ) (w : ℕ) (last : Bool) (start block out : List ℕ) {n : ℕ}
    (e : n ≡ steps_refusal w (length start) (length block) (length out)) where
  abbrev Answers : ℕ → List ℕ → Type 0
  Answers m left = (m ≡ steps_refusal w (length start) (length block) (length out)) × (left ≡ steps_output run w last start block out)

  pub refused : (n ≡ 0 → ⊥) → Answers n out
  unfolding steps_output
  refused some = (e, rw (ne_eqb _ _ (λ none. some (e ∙ none))))

  pub accepted : n ≡ 0 → (f : Family) → family_of w ≡ f → {left : List ℕ} → left ≡ run f last start block ++ drop (block_bytes f) out → Answers 0 left
  unfolding steps_output
  accepted none f is written =
      let allowed = sym e ∙ none in
      (sym allowed, written ∙ rw (eq-eqb _ _ allowed, is))
