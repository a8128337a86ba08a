-- What a trace leaves in the lent numbers.
use mathlib.Core.Bool.{Bool}
use mathlib.Core.List.{List, ◌++◌}
use mathlib.Core.Path.{◌≡◌, refl, sym, ◌∙◌}
use Prim.Native.Nat.{ℕ, ◌*◌, ◌/◌, ◌≤◌}
use native.Mathlib.Omega.{arith}
use borrow.Author.Tests.{eq-eqb, ne_eqb}
use lib.ListN.{length, drop}
use Rattle.simd.specs.Basic.{Family, family_of, rows, block_bytes, points}
use Rattle.expansion.specs.Call.{expand_refusal}
use Rattle.expansion.proofs.Refused.{sizes as block-sizes}
use Rattle.stepping.specs.Call.{steps_refusal}
use Rattle.stepping.proofs.Calls.{sizes}
use Rattle.trace_states.specs.States.{state_words}
use Rattle.trace.specs.Traced.{traced, states_refusal, traced_states}

-- Where the refusal is n: all stays as it was, or block and output have their sizes, and what is traced stands in the output's front.
module _ (what : Family → Bool → List ℕ → List ℕ) (w : ℕ) (last : Bool) (block out : List ℕ) {n : ℕ}
    (e : n ≡ expand_refusal w (length block) (length out)) where
  abbrev Traces : ℕ → List ℕ → Type 0
  Traces m left = (m ≡ expand_refusal w (length block) (length out)) × (left ≡ traced what w last block out)

  pub trace_refused : (n ≡ 0 → ⊥) → Traces n out
  unfolding traced
  trace_refused some = (e, rw (ne_eqb _ _ (λ none. some (e ∙ none))))

  pub trace_sizes : n ≡ 0 → (length block ≡ block_bytes (family_of w)) × (points (family_of w) ≤ length out)
  trace_sizes none = block-sizes w (length block) (length out) (family_of w) refl (sym e ∙ none)

  pub trace_accepted : n ≡ 0 → {left : List ℕ} → left ≡ what (family_of w) last block ++ drop (points (family_of w)) out → Traces 0 left
  unfolding traced
  trace_accepted none put = let allowed = sym e ∙ none in (sym allowed, put ∙ rw (eq-eqb _ _ allowed))

-- The same of the states.
module _ (w : ℕ) (last : Bool) (old block out : List ℕ) {n : ℕ} (e : n ≡ steps_refusal w (length old) (length block) (length out / 9)) where
  abbrev States : ℕ → List ℕ → Type 0
  States m left = (m ≡ states_refusal w (length old) (length block) (length out)) × (left ≡ traced_states w last old block out)

  pub states_refused : (n ≡ 0 → ⊥) → States n out
  unfolding traced_states states_refusal
  states_refused some = (e, rw (ne_eqb _ _ (λ none. some (e ∙ none))))

  pub states_sizes : n ≡ 0 → (f : Family) → family_of w ≡ f
      → (length old ≡ block_bytes f) × ((length block ≡ block_bytes f) × (144 * rows f ≤ length out))
  states_sizes none f is =
      let all = sizes w (length old) (length block) (length out / 9) f is (sym e ∙ none) in
      (all.0, (all.1.0, omega (arith, all.1.1)))

  pub states_accepted : n ≡ 0 → (f : Family) → family_of w ≡ f → {left : List ℕ}
      → left ≡ state_words f last old block ++ drop (144 * rows f) out → States 0 left
  unfolding traced_states states_refusal
  states_accepted none f is put = let allowed = sym e ∙ none in (sym allowed, put ∙ rw (eq-eqb _ _ allowed, is))
