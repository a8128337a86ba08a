-- Runs of steps by their numbers are the steps of the definition.
use Rattle.std.proofs.Common.{◌≡◌, ℕ, zero, suc, ◌+◌, List, [], get_or, sym, refl, ap, ◌∙◌, add-zero, add-suc}
use Rattle.simd.specs.Basic.{Family}
use Rattle.simd.specs.Steps.{steps}
use Rattle.words.specs.Columns.{columns, from_columns, new_a, stepped}
use Rattle.words.specs.Runs.{run, last_steps}
use Rattle.words.proofs.Columns.{stepped_step}

-- Eight steps one after the other.
pub eight : (f : Family) (w : List (List ℕ)) (i : ℕ) (l : List (List ℕ)) {s₁ s₂ s₃ s₄ s₅ s₆ s₇ s₈ : List (List ℕ)} →
    s₁ ≡ stepped f i (get_or w i []) l → s₂ ≡ stepped f (i + 1) (get_or w (i + 1) []) s₁ →
    s₃ ≡ stepped f (i + 2) (get_or w (i + 2) []) s₂ → s₄ ≡ stepped f (i + 3) (get_or w (i + 3) []) s₃ →
    s₅ ≡ stepped f (i + 4) (get_or w (i + 4) []) s₄ → s₆ ≡ stepped f (i + 5) (get_or w (i + 5) []) s₅ →
    s₇ ≡ stepped f (i + 6) (get_or w (i + 6) []) s₆ → s₈ ≡ stepped f (i + 7) (get_or w (i + 7) []) s₇ → s₈ ≡ run f w i 8 l
unfolding run
eight f w i l e₁ e₂ e₃ e₄ e₅ e₆ e₇ e₈ =
    let at : ℕ → List (List ℕ) → List (List ℕ) = λ k s. stepped f (i + k) (get_or w (i + k) []) s in
    let r₁ = e₁ ∙ ap (λ k. stepped f k (get_or w k []) l) (sym (add-zero i)) in
    let r₂ = e₂ ∙ ap (at 1) r₁ in
    let r₃ = e₃ ∙ ap (at 2) r₂ in
    let r₄ = e₄ ∙ ap (at 3) r₃ in
    let r₅ = e₅ ∙ ap (at 4) r₄ in
    let r₆ = e₆ ∙ ap (at 5) r₅ in
    let r₇ = e₇ ∙ ap (at 6) r₆ in
    e₈ ∙ ap (at 7) r₇

module _ (f : Family) (w l : List (List ℕ)) where
  after : ℕ → List (List ℕ)
  after i = columns (steps f w i (from_columns l))

  -- A step reads nothing of an array but the four columns.
  first : (i n : ℕ) → run f w i (suc n) l ≡ run f w i (suc n) (columns (from_columns l))
  unfolding run stepped new_a
  first i zero = refl
  first i (suc n) = ap (stepped f (i + suc n) (get_or w (i + suc n) [])) (first i n)

  run_steps : (i n : ℕ) → run f w i n (after i) ≡ after (i + n)
  unfolding run steps after
  run_steps i zero = ap after (sym (add-zero i))
  run_steps i (suc n) =
      ap (stepped f (i + n) (get_or w (i + n) [])) (run_steps i n)
      ∙ stepped_step f (i + n) (get_or w (i + n) []) (after (i + n))
      ∙ ap after (sym (add-suc i n))

  -- Four rounds are the 32 steps.
  pub rounds : {s₁ s₂ s₃ s₄ : List (List ℕ)} →
      s₁ ≡ run f w 0 8 l → s₂ ≡ run f w 8 8 s₁ → s₃ ≡ run f w 16 8 s₂ → s₄ ≡ run f w 24 8 s₃ → s₄ ≡ columns (steps f w 32 (from_columns l))
  unfolding steps after
  rounds e₁ e₂ e₃ e₄ =
      let r₁ = e₁ ∙ first 0 7 ∙ run_steps 0 8 in
      let r₂ = e₂ ∙ ap (run f w 8 8) r₁ ∙ run_steps 8 8 in
      let r₃ = e₃ ∙ ap (run f w 16 8) r₂ ∙ run_steps 16 8 in
      e₄ ∙ ap (run f w 24 8) r₃ ∙ run_steps 24 8

-- Steps 32 to 35, with the old state's columns as words.
pub last_four : (f : Family) (old l : List (List ℕ)) {s₁ s₂ s₃ s₄ : List (List ℕ)} →
    s₁ ≡ stepped f 32 (get_or old 0 []) l → s₂ ≡ stepped f 33 (get_or old 1 []) s₁ →
    s₃ ≡ stepped f 34 (get_or old 2 []) s₂ → s₄ ≡ stepped f 35 (get_or old 3 []) s₃ →
    s₄ ≡ columns (last_steps f (from_columns old) (from_columns l))
unfolding last_steps
last_four f old l e₁ e₂ e₃ e₄ =
    let r₁ = e₁ ∙ stepped_step f 32 (get_or old 0 []) l in
    let r₂ = e₂ ∙ ap (stepped f 33 (get_or old 1 [])) r₁ ∙ stepped_step f 33 (get_or old 1 []) _ in
    let r₃ = e₃ ∙ ap (stepped f 34 (get_or old 2 [])) r₂ ∙ stepped_step f 34 (get_or old 2 []) _ in
    e₄ ∙ ap (stepped f 35 (get_or old 3 [])) r₃ ∙ stepped_step f 35 (get_or old 3 []) _
