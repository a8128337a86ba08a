-- Laws of the answer: its refusals, and its cases where nothing is refused.
use mathlib.Core.Bool.{true, false}
use mathlib.Core.List.{List}
use mathlib.Core.Path.{◌≡◌, refl, ◌∙◌}
use Prim.Native.Nat.{ℕ, zero, suc}
use Rattle.simd.specs.Basic.{family_of, is_width}
use Rattle.simd.specs.Constants.{start}
use Rattle.simd.specs.Message.{message}
use Rattle.simd.specs.Hash.{final_state}
use Rattle.hash.specs.Open.{first, piece_refusal}
use Rattle.pairs.specs.Lists.{equal, least}
use Rattle.pairs.specs.Pairs.{differ_at}
use Rattle.pairs.specs.Compared.{Found, common, found, compared}
use Rattle.pairs.specs.Answer.{refusal, verdict, answer}
use Rattle.pairs.specs.declared.Verdict.TheVariants.{Same, Apart, Meet, Refused}

module _ (width : ℕ) (x y : List ℕ) where
  pub compared_same : equal x y ≡ true → Same ≡ verdict 0 (compared width x y)
  unfolding verdict compared found
  compared_same e = rw e

  module _ (differ : equal x y ≡ false) where
    pub compared_apart : equal (final_state width x) (final_state width y) ≡ false → Apart ≡ verdict 0 (compared width x y)
    unfolding verdict compared found final_state
    compared_apart e = rw (differ, e)

    pub compared_meet : {k : ℕ} → equal (final_state width x) (final_state width y) ≡ true
        → k ≡ least (differ_at (family_of width) (start width) x y) (common (family_of width) x y) 0 → Meet k ≡ verdict 0 (compared width x y)
    unfolding verdict compared found final_state
    compared_meet e number = rw (differ, e, number)

refused : (r : ℕ) (x : Found) → (r ≡ 0 → ⊥) → Refused r ≡ verdict r x
unfolding verdict
refused zero x h = absurd (h refl)
refused (suc r) x h = refl

module _ (width : ℕ) (a : List ℕ) (na : ℕ) (b : List ℕ) (nb : ℕ) where
  abbrev result : Found
  result = compared width (message a na) (message b nb)

  pub answer_width : is_width width ≡ false → Refused 1 ≡ answer width a na b nb
  unfolding answer refusal verdict
  answer_width e = rw e

  module _ (known : is_width width ≡ true) where
    pub answer_first : (r : ℕ) → r ≡ piece_refusal 0 a na → (r ≡ 0 → ⊥) → Refused r ≡ answer width a na b nb
    unfolding answer refusal first
    answer_first zero e h = absurd (h refl)
    answer_first (suc r) e h = refused (suc r) result h ∙ rw (known, ← e)

    pub answer_second : (r : ℕ) → piece_refusal 0 a na ≡ 0 → r ≡ piece_refusal 0 b nb → (r ≡ 0 → ⊥) → Refused r ≡ answer width a na b nb
    unfolding answer refusal first
    answer_second r z e h = refused r result h ∙ rw (known, z, ← e)

    pub answer_found : piece_refusal 0 a na ≡ 0 → piece_refusal 0 b nb ≡ 0 → verdict 0 result ≡ answer width a na b nb
    unfolding answer refusal first
    answer_found z e = rw (known, z, e)
