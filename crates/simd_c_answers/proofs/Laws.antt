-- What a tape's run leaves in the numbers: its count always, its place where it is refused.
use mathlib.Core.List.{List}
use mathlib.Core.Path.{◌≡◌, refl, sym, ap, ◌∙◌}
use Prim.Native.Nat.{ℕ, zero, suc}
use Rattle.tape.specs.declared.Ran.{Ran}
use Rattle.simd_c_answers.specs.Calls.{placed}

placed_refused : (r new old : ℕ) → (r ≡ 0 → ⊥) → placed r new old ≡ new
unfolding placed
placed_refused zero new old some = absurd (some refl)
placed_refused (suc n) new old some = refl

placed_accepted : (r new old : ℕ) → r ≡ 0 → placed r new old ≡ old
unfolding placed
placed_accepted r new old none = ap (λ n. placed n new old) none

module _ {r x : Ran} (ran : r ≡ x) {left all : List ℕ} (written : left ≡ all) (old : ℕ) where
  abbrev Tells : ℕ → Type 0
  Tells place = (r.refusal ≡ x.refusal) × ((left ≡ all) × ((r.digests ≡ x.digests) × (place ≡ placed x.refusal x.place old)))

  tells : (place : ℕ) → place ≡ placed x.refusal x.place old → Tells place
  tells place is = (ap (λ (n : Ran). n.refusal) ran, (written, (ap (λ (n : Ran). n.digests) ran, is)))

  pub tape_refused : (r.refusal ≡ 0 → ⊥) → Tells r.place
  tape_refused some =
      let refusal = ap (λ (n : Ran). n.refusal) ran in
      tells r.place (ap (λ (n : Ran). n.place) ran ∙ sym (placed_refused _ _ old (λ z. some (refusal ∙ z))))

  pub tape_run : r.refusal ≡ 0 → Tells old
  tape_run none = tells old (sym (placed_accepted _ _ old (sym (ap (λ (n : Ran). n.refusal) ran) ∙ none)))
