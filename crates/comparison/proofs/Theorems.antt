-- The theorems of the comparison, for every two messages that break no rule and at every width. They are about `answer`, the very
-- definition that the contract of `compare` cites. The last two are for all messages: what stands past their bits has no part in the answer.
use mathlib.Core.Bool.{false, true, cond}
use mathlib.Core.List.{List}
use mathlib.Core.Logic.{◌↔◌, ◌⊎◌, inl, inr}
use mathlib.Core.Path.{◌≡◌, refl, sym, ap, ◌∙◌}
use Prim.Native.Nat.{ℕ, zero, suc, ◌<◌, ◌≤◌}
use native.Mathlib.Decide.{dec_lt}
use native.Mathlib.Omega.{arith}
use lib.Dec.{eqb}
use lib.ListN.{length, get_or}
use lib.Seq.{ext_get_or}
use Rattle.simd.specs.Basic.{Family, family_of, is_width}
use Rattle.simd.specs.Constants.{start}
use Rattle.simd.specs.Message.{message, message_blocks}
use Rattle.simd.specs.Steps.{compression}
use Rattle.simd.specs.Hash.{final_state, compressions}
use Rattle.pairs.specs.Pairs.{state_at, block_at}
use Rattle.pairs.specs.Compared.{Found, same, apart, meet, common, found, compared}
use Rattle.pairs.specs.Answer.{refusal, verdict, answer}
use Rattle.pairs.specs.declared.Verdict.{Verdict}
use Rattle.pairs.specs.declared.Verdict.TheVariants.{Same, Apart, Meet, Refused}
use Rattle.hash.specs.Open.{first as earlier, piece_refusal}
use Rattle.hash.proofs.Feeding.{length_message}
use Rattle.hash.proofs.Refusing.{Accepted, accepted}
use Rattle.hash.proofs.Ignored.{Agree, same_refusal, neither, neither_first, piece_not_3}
use Rattle.pairs.proofs.ByteLaws.{is_message}
use Rattle.pairs.proofs.PairLaws.{first_state, out_of_message, out_of_length}
use Rattle.pairs.proofs.FoundLaws as laws

-- The pairs of a message are those of its compressions: the starting state goes into the first block, what comes out of a message block goes
-- into the next block, and what comes out of the length block is the final state.
pub record Chained (width : ℕ) (m : List ℕ) : Type 0 where
  pub first : state_at (family_of width) (start width) m (message_blocks (family_of width) (length m)) ≡ start width
  pub next :
      (n : ℕ) → n < message_blocks (family_of width) (length m)
      → compression (family_of width) false (state_at (family_of width) (start width) m (suc n)) (block_at (family_of width) m (suc n))
      ≡ state_at (family_of width) (start width) m n
  pub last :
      compression (family_of width) true (state_at (family_of width) (start width) m 0) (block_at (family_of width) m 0) ≡ final_state width m

pub pairs_chained : (width : ℕ) (m : List ℕ) → Chained width m
unfolding final_state
pairs_chained width m =
    record {
      first = first_state (family_of width) (start width) m;
      next = out_of_message (family_of width) (start width) m;
      last = out_of_length (family_of width) (start width) m;
    }

-- Lengths and bits are equal.
pub record SameBits (a : List ℕ) (na : ℕ) (b : List ℕ) (nb : ℕ) : Type 0 where
  pub lengths : na ≡ nb
  pub bits : (i : ℕ) → i < na → get_or (message a na) i 0 ≡ get_or (message b nb) i 0

-- What holds where two messages meet at k. Both have a block of that number; their pairs there differ; both pairs go into the same kind of
-- compression, that of a length block at 0 and of a message block elsewhere, and one state comes out; at every smaller number the pairs
-- are equal; and k is the smallest number at which they differ.
pub record MeetAt (f : Family) (from a b : List ℕ) (k : ℕ) : Type 0 where
  pub first_has : k < compressions f (length a)
  pub second_has : k < compressions f (length b)
  pub differ : laws.SamePair f from a b k → ⊥
  pub one_state :
      compression f (eqb k 0) (state_at f from a k) (block_at f a k) ≡ compression f (eqb k 0) (state_at f from b k) (block_at f b k)
  pub below : (i : ℕ) → i < k → laws.SamePair f from a b i
  pub smallest : (i : ℕ) → (laws.SamePair f from a b i → ⊥) → k ≤ i

-- Exactly one of three statements holds.
pub record ExactlyOne (P Q R : Type 0) : Type 0 where
  pub one : P ⊎ (Q ⊎ R)
  pub not_first_two : P → Q → ⊥
  pub not_outer : P → R → ⊥
  pub not_last_two : Q → R → ⊥

module _ (width : ℕ) (a : List ℕ) (na : ℕ) (b : List ℕ) (nb : ℕ) (rules : refusal width a na b nb ≡ 0) where
  abbrev f : Family
  f = family_of width

  abbrev x : List ℕ
  x = message a na

  abbrev y : List ℕ
  y = message b nb

  first : Accepted 0 a na
  first = accepted 0 a na (laws.unrefused width a na b nb rules).0

  second : Accepted 0 b nb
  second = accepted 0 b nb (laws.unrefused width a na b nb rules).1

  same_message : SameBits a na b nb ↔ (x ≡ y)
  same_message = (
    λ s.
        ext_get_or 0 x y (length_message a na first.within ∙ s.lengths ∙ sym (length_message b nb second.within))
        (λ i low. s.bits i (omega (arith, length_message a na first.within))),
    λ e.
        record {
          lengths = sym (length_message a na first.within) ∙ ap length e ∙ length_message b nb second.within;
          bits = λ i low. ap (λ (m : List ℕ). get_or m i 0) e;
        },
  )

  -- The answer, where nothing is refused.
  unrefused : answer width a na b nb ≡ verdict 0 (found f (start width) x y)
  unfolding answer compared
  unrefused = ap (λ (r : ℕ). verdict r (found f (start width) x y)) rules

  -- Same exactly when lengths and bits are equal.
  pub same_exactly : (answer width a na b nb ≡ Same) ↔ SameBits a na b nb
  unfolding verdict
  same_exactly = (
    λ e. same_message.1 ((laws.found_same f (start width) x y).0 (laws.verdict_same (found f (start width) x y) (sym unrefused ∙ e))),
    λ s. unrefused ∙ ap (verdict 0) ((laws.found_same f (start width) x y).1 (same_message.0 s)),
  )

  -- Apart exactly when they differ and the final states differ.
  pub apart_exactly :
      (answer width a na b nb ≡ Apart)
      ↔ ((SameBits a na b nb → ⊥) × (final_state width (message a na) ≡ final_state width (message b nb) → ⊥))
  unfolding verdict final_state
  apart_exactly = (
    λ e.
        let h = (laws.found_apart f (start width) x y).0 (laws.verdict_apart (found f (start width) x y) (sym unrefused ∙ e)) in
        (λ s. h.0 (same_message.0 s), h.1),
    λ h. unrefused ∙ ap (verdict 0) ((laws.found_apart f (start width) x y).1 (λ e. h.0 (same_message.1 e), h.1)),
  )

  -- Meet exactly when they differ and the final states are equal.
  pub meet_exactly :
      ((k : ℕ) × (answer width a na b nb ≡ Meet k))
      ↔ ((SameBits a na b nb → ⊥) × (final_state width (message a na) ≡ final_state width (message b nb)))
  unfolding verdict final_state
  meet_exactly = (
    λ e.
        let h = (laws.found_meet f (start width) x y).0 (e.0, laws.verdict_meet (found f (start width) x y) e.0 (sym unrefused ∙ e.1)) in
        (λ s. h.0 (same_message.0 s), h.1),
    λ h.
        let k = (laws.found_meet f (start width) x y).1 (λ e. h.0 (same_message.1 e), h.1) in
        (k.0, unrefused ∙ ap (verdict 0) k.1),
  )

  one_of : (z : Found) → (verdict 0 z ≡ Same) ⊎ ((verdict 0 z ≡ Apart) ⊎ ((k : ℕ) × (verdict 0 z ≡ Meet k)))
  unfolding verdict
  one_of same = inl refl
  one_of apart = inr (inl refl)
  one_of (meet k) = inr (inr (k, refl))

  -- Exactly one of the three.
  pub exactly_one :
      ExactlyOne (answer width a na b nb ≡ Same) (answer width a na b nb ≡ Apart) ((k : ℕ) × (answer width a na b nb ≡ Meet k))
  exactly_one =
      record {
        one = rw unrefused (one_of (found f (start width) x y));
        not_first_two = λ p q. let z : ◌≡◌ {A = ℕ} 0 1 = cc in omega arith;
        not_outer = λ p r. let e = r.1 in let z : ◌≡◌ {A = ℕ} 0 1 = cc in omega arith;
        not_last_two = λ q r. let e = r.1 in let z : ◌≡◌ {A = ℕ} 0 1 = cc in omega arith;
      }

  -- At Meet k.
  pub at_meet : (k : ℕ) → answer width a na b nb ≡ Meet k → MeetAt (family_of width) (start width) (message a na) (message b nb) k
  unfolding common
  at_meet k e =
      let met = laws.verdict_meet (found f (start width) x y) k (sym unrefused ∙ e) in
      let wx = is_message a na (laws.unrefused width a na b nb rules).0 in
      let wy = is_message b nb (laws.unrefused width a na b nb rules).1 in
      let low = laws.common_meet f (start width) x y wx wy k met in
      let below = laws.below_meet f (start width) x y k met in
      record {
        first_has = omega arith;
        second_has = omega arith;
        differ = laws.differ_meet f (start width) x y wx wy k met;
        one_state = laws.one_state f (start width) x y k low ((laws.found_meet f (start width) x y).0 (k, met)).1 below;
        below = below;
        smallest = λ i d. above i d (dec_lt i k);
      }
    where
      above : (i : ℕ) → (laws.SamePair f (start width) x y i → ⊥) → Dec (i < k) → k ≤ i
      above i d (yes low) = absurd (d (laws.below_meet f (start width) x y k (laws.verdict_meet (found f (start width) x y) k (sym unrefused ∙ e)) i low))
      above i d (no high) = omega (arith, high)

-- The answer depends on the messages' bits alone: what stands past the counts is ignored.
pub bits_alone : (width : ℕ) {a a' b b' : List ℕ} {na nb : ℕ} → Agree na a a' → Agree nb b b' → answer width a na b nb ≡ answer width a' na b' nb
unfolding answer refusal
bits_alone width first second =
    λ i.
    verdict (cond (is_width width) (earlier (same_refusal 0 first i) (same_refusal 0 second i)) 1) (compared width (first.bits i) (second.bits i))

-- So they are no reason for a refusal: 3 never occurs.
abbrev number_of : Verdict → ℕ
number_of Same = 0
number_of Apart = 0
number_of (Meet k) = 0
number_of (Refused n) = n

refused_by : (r : ℕ) (f : Found) → number_of (verdict r f) ≡ r
unfolding verdict
refused_by (suc r) f = refl
refused_by zero same = refl
refused_by zero apart = refl
refused_by zero (meet k) = refl

pub never_3 : (width : ℕ) (a : List ℕ) (na : ℕ) (b : List ℕ) (nb : ℕ) → answer width a na b nb ≡ Refused 3 → ⊥
unfolding answer refusal
never_3 width a na b nb e =
    neither (is_width width) (neither_first (piece_refusal 0 a na) (piece_refusal 0 b nb) (piece_not_3 0 a na) (piece_not_3 0 b nb))
    (λ (e : 1 ≡ 3). omega arith)
    (sym (refused_by _ (compared width (message a na) (message b nb))) ∙ ap number_of e)
