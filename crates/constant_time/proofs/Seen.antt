-- What a loop over two byte strings has seen of them.
use mathlib.Core.List.{List}
use mathlib.Core.Path.{◌≡◌, refl, sym, ◌∙◌}
use Prim.Native.Nat.{ℕ, zero, suc, ◌+◌, ◌<◌, ◌≤◌}
use native.Mathlib.Omega.{arith}
use borrow.Author.Count.{below_more}
use lib.Bits.{bit_xor, bit_or, xor_self, xor_add_and, or_add_and, and_le_l, and_le_r, or_zero_l}
use lib.Dec.{eqb, eqb-suc-zero}
use lib.ListN.{length, get_or}
use Rattle.pairs.specs.Lists.{equal}
use Rattle.pairs.proofs.ListLaws.{not_equal, equal_all}

-- What the or of the xors of the first i bytes says: it is 0 exactly where they are equal.
pub record Seen (x y : List ℕ) (i seen : ℕ) : Type 0 where
  pub only : seen ≡ 0 → (k : ℕ) → k < i → get_or x k 0 ≡ get_or y k 0
  pub all : x ≡ y → seen ≡ 0

xor_zero : (a b : ℕ) → bit_xor a b ≡ 0 → a ≡ b
xor_zero a b e = omega (arith, e, xor_add_and a b, and_le_l a b, and_le_r a b)

module _ {x y : List ℕ} where
  pub seen_none : Seen x y 0 0
  seen_none = record { only = λ _ k low. absurd (omega arith); all = λ _. refl }

  pub seen_more : {i seen : ℕ} → Seen x y i seen → Seen x y (i + 1) (bit_or seen (bit_xor (get_or x i 0) (get_or y i 0)))
  seen_more {i} {seen} s =
      let more = bit_xor (get_or x i 0) (get_or y i 0) in
      let both = or_add_and seen more in
      let left = and_le_l seen more in
      let right = and_le_r seen more in
      record {
        only =
            λ none.
            below_more _ _ (s.only (omega (arith, none, both, left, right)))
            (xor_zero (get_or x i 0) (get_or y i 0) (omega (arith, none, both, left, right)));
        all = λ e. rw (s.all e, ← e, xor_self (get_or x i 0)) (or_zero_l 0);
      }

  pub seen_all : {i : ℕ} (seen : ℕ) → Seen x y i seen → length x ≡ length y → length x ≤ i → eqb seen 0 ≡ equal x y
  seen_all {i} zero s size end = sym (equal_all x y size (λ k low. s.only refl k (omega arith)))
  seen_all {i} (suc seen) s size end =
      eqb-suc-zero seen ∙ sym (not_equal x y (λ e. omega (arith, s.all e)))
