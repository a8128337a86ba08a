-- What `found` and `verdict` say of the two messages.
use mathlib.Core.Bool.{Bool, true, false, cond}
use mathlib.Core.List.{List}
use mathlib.Core.Logic.{◌↔◌}
use mathlib.Core.Path.{◌≡◌, refl, sym, ap, ◌∙◌}
use Prim.Native.Nat.{ℕ, zero, suc, ◌<◌}
use native.Mathlib.Decide.{dec_lt}
use native.Mathlib.Omega.{arith}
use Rattle.simd.specs.Basic.{Family, is_width}
use lib.Dec.{eqb, eqb-suc-zero}
use Rattle.simd.specs.Steps.{compression}
use Rattle.simd.specs.Hash.{final, compressions}
use Rattle.hash.specs.Open.{piece_refusal}
use Rattle.pairs.specs.Lists.{equal, least}
use Rattle.pairs.specs.Pairs.{state_at, block_at, differ_at}
use Rattle.pairs.specs.Compared.{Found, same, apart, meet, common, found}
use Rattle.hash.proofs.Refusing.{passed, both_passed}
use Rattle.pairs.specs.Answer.{refusal, verdict}
use Rattle.pairs.specs.declared.Verdict.TheVariants.{Same, Apart, Meet}
use Rattle.pairs.proofs.ListLaws.{equal_true, same_equal, equal_false, not_equal, least_is}
use Rattle.pairs.proofs.MessageLaws.{IsMessage}
use Rattle.pairs.proofs.PairLaws.{alike, like, all_alike, out_of_message, out_of_length}

-- The pairs of two messages at a number are equal.
pub record SamePair (f : Family) (from a b : List ℕ) (n : ℕ) : Type 0 where
  pub states : state_at f from a n ≡ state_at f from b n
  pub blocks : block_at f a n ≡ block_at f b n

-- Which case a pick by two tests is.
pick_same : (t u : Bool) (k : ℕ) → cond t same (cond u (meet k) apart) ≡ same → t ≡ true
pick_same true u k e = refl
pick_same false true k e = cc
pick_same false false k e = cc

pick_apart : (t u : Bool) (k : ℕ) → cond t same (cond u (meet k) apart) ≡ apart → (t ≡ false) × (u ≡ false)
pick_apart true u k e = cc
pick_apart false true k e = cc
pick_apart false false k e = (refl, refl)

pick_meet : (t u : Bool) (k j : ℕ) → cond t same (cond u (meet k) apart) ≡ meet j → (t ≡ false) × (u ≡ true) × (k ≡ j)
pick_meet true u k j e = cc
pick_meet false true k j e = (refl, refl, cc)
pick_meet false false k j e = cc

module _ (f : Family) (from a b : List ℕ) where
  abbrev number : ℕ
  number = least (differ_at f from a b) (common f a b) 0

  abbrev finals : Bool
  finals = equal (final f from a) (final f from b)

  pub found_same : (found f from a b ≡ same) ↔ (a ≡ b)
  unfolding found
  found_same = (
    λ e. equal_true a b (pick_same (equal a b) finals number e),
    λ e. rw (same_equal a b e),
  )

  pub found_apart : (found f from a b ≡ apart) ↔ ((a ≡ b → ⊥) × (final f from a ≡ final f from b → ⊥))
  unfolding found
  found_apart = (
    λ e.
        let tests = pick_apart (equal a b) finals number e in
        (equal_false a b tests.0, equal_false (final f from a) (final f from b) tests.1),
    λ h. rw (not_equal a b h.0, not_equal (final f from a) (final f from b) h.1),
  )

  meet_tests : (k : ℕ) → found f from a b ≡ meet k → (equal a b ≡ false) × (finals ≡ true) × (number ≡ k)
  unfolding found
  meet_tests k e = pick_meet (equal a b) finals number k e

  pub found_meet : ((k : ℕ) × (found f from a b ≡ meet k)) ↔ ((a ≡ b → ⊥) × (final f from a ≡ final f from b))
  unfolding found
  found_meet = (
    λ e.
        let tests = meet_tests e.0 e.1 in
        (equal_false a b tests.0, equal_true (final f from a) (final f from b) tests.1),
    λ h. (number, rw (not_equal a b h.0, same_equal (final f from a) (final f from b) h.1)),
  )

  -- Pairs at a number differ, or are equal.
  pub same_pair : (n : ℕ) → differ_at f from a b n ≡ false → SamePair f from a b n
  unfolding differ_at
  same_pair n e =
      let both = alike (state_at f from a n) (block_at f a n) (state_at f from b n) (block_at f b n) e in
      record { states = both.0; blocks = both.1 }

  pub pair_differs : (n : ℕ) → differ_at f from a b n ≡ true → SamePair f from a b n → ⊥
  unfolding differ_at
  pair_differs n e s =
      let no_difference = like (state_at f from a n) (block_at f a n) (state_at f from b n) (block_at f b n) s.states s.blocks in
      let z : ◌≡◌ {A = ℕ} 0 1 = cc in
      omega arith

  -- Messages that differ have a number, common to both, at which their pairs differ.
  pub number_found : IsMessage a → IsMessage b → (a ≡ b → ⊥) → number < common f a b
  number_found wa wb h = go (dec_lt number (common f a b))
    where
      go : Dec (number < common f a b) → number < common f a b
      go (yes low) = low
      go (no high) =
          absurd (h (all_alike f from a b wa wb (λ n low. (least_is (differ_at f from a b) (common f a b) 0).below n (omega arith) (omega (arith, high)))))

  -- One state comes out at the number of a meeting: the next pairs, or the final states, are equal.
  pub one_state : (k : ℕ) → k < common f a b → final f from a ≡ final f from b → ((i : ℕ) → i < k → SamePair f from a b i)
      → compression f (eqb k 0) (state_at f from a k) (block_at f a k) ≡ compression f (eqb k 0) (state_at f from b k) (block_at f b k)
  unfolding common compressions
  one_state zero low e below = out_of_length f from a ∙ e ∙ sym (out_of_length f from b)
  one_state (suc k) low e below =
      rw (eqb-suc-zero k)
      (out_of_message f from a k (omega arith) ∙ (below k (omega arith)).states ∙ sym (out_of_message f from b k (omega arith)))

  pub below_meet : (k : ℕ) → found f from a b ≡ meet k → (i : ℕ) → i < k → SamePair f from a b i
  below_meet k e i low =
      let here : number ≡ k = (meet_tests k e).2 in
      same_pair i ((least_is (differ_at f from a b) (common f a b) 0).below i (omega arith) (omega arith))

  pub common_meet : IsMessage a → IsMessage b → (k : ℕ) → found f from a b ≡ meet k → k < common f a b
  common_meet wa wb k e =
      let tests = meet_tests k e in
      let here : number ≡ k = tests.2 in
      omega (arith, number_found wa wb (equal_false a b tests.0))

  pub differ_meet : IsMessage a → IsMessage b → (k : ℕ) → found f from a b ≡ meet k → SamePair f from a b k → ⊥
  differ_meet wa wb k e =
      let here : number ≡ k = (meet_tests k e).2 in
      let low = common_meet wa wb k e in
      let hit = (least_is (differ_at f from a b) (common f a b) 0).hit (omega arith) in
      pair_differs k (ap (differ_at f from a b) (sym here) ∙ hit)

-- The cases of the answer where nothing is refused.
pub verdict_same : (x : Found) → verdict 0 x ≡ Same → x ≡ same
unfolding verdict
verdict_same same e = refl
verdict_same apart e = cc
verdict_same (meet k) e = cc

pub verdict_apart : (x : Found) → verdict 0 x ≡ Apart → x ≡ apart
unfolding verdict
verdict_apart same e = cc
verdict_apart apart e = refl
verdict_apart (meet k) e = cc

pub verdict_meet : (x : Found) (k : ℕ) → verdict 0 x ≡ Meet k → x ≡ meet k
unfolding verdict
verdict_meet same k e = cc
verdict_meet apart k e = cc
verdict_meet (meet j) k e = ap meet (cc)

-- Where nothing is refused, neither message is.
pub unrefused : (width : ℕ) (a : List ℕ) (na : ℕ) (b : List ℕ) (nb : ℕ) → refusal width a na b nb ≡ 0
    → (piece_refusal 0 a na ≡ 0) × (piece_refusal 0 b nb ≡ 0)
unfolding refusal
unrefused width a na b nb e = both_passed (piece_refusal 0 a na) (piece_refusal 0 b nb) (passed (is_width width) _ 0 e).1
