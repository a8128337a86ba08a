-- Laws of `equal` and `least`.
use Rattle.std.proofs.lemmas.Slice.Eq.{bytes_eq-Decides}
use Rattle.std.specs.Cmp.Lexicographic.{pointwise}
use Rattle.std.specs.Prelude.{nat_eq}
use mathlib.Core.Bool.{Bool, true, false, cond, not}
use mathlib.Core.List.{List, [], ◌∷◌, ◌++◌}
use mathlib.Core.Path.{◌≡◌, refl, sym, ap, ◌∙◌, subst}
use Prim.Native.Nat.{ℕ, zero, suc, ◌+◌, ◌<◌, ◌≤◌}
use native.Mathlib.Decide.{ℕ_discrete}
use native.Mathlib.Omega.{arith}
use borrow.Author.Tests.{eq-eqb}
use lib.Dec.{eqb}
use lib.ListN.{length, get_or}
use lib.Seq.{ext_get_or}
use Rattle.pairs.specs.Lists.{equal, least}

-- What the code's `!=` of slices says, by its answer.
not_true : (t : Bool) → not t ≡ true → t ≡ false
not_true true e = cc
not_true false e = refl

not_false : (t : Bool) → not t ≡ false → t ≡ true
not_false true e = refl
not_false false e = cc

pub slices_other : (a b : List ℕ) {r : Bool} → r ≡ not (pointwise nat_eq a b) → r ≡ true → equal a b ≡ false
unfolding equal
slices_other a b test other = not_true (pointwise nat_eq a b) (sym test ∙ other)

pub slices_same : (a b : List ℕ) {r : Bool} → r ≡ not (pointwise nat_eq a b) → r ≡ false → equal a b ≡ true
unfolding equal
slices_same a b test same = not_false (pointwise nat_eq a b) (sym test ∙ same)

pub equal_true : (a b : List ℕ) → equal a b ≡ true → a ≡ b
unfolding equal
equal_true a b e = (bytes_eq-Decides a b).0 e

pub same_equal : (a b : List ℕ) → a ≡ b → equal a b ≡ true
unfolding equal
same_equal a b e = (bytes_eq-Decides a b).1 e

pub equal_refl : (l : List ℕ) → equal l l ≡ true
equal_refl l = same_equal l l refl

-- Lists with equal fronts are equal exactly where the rests are.
pub equal_behind : (a b c : List ℕ) → equal (a ++ b) (a ++ c) ≡ equal b c
unfolding equal
equal_behind [] b c = refl
equal_behind (x ∷ xs) b c = rw (eq-eqb x x refl) (equal_behind xs b c)

pub equal_false : (a b : List ℕ) → equal a b ≡ false → a ≡ b → ⊥
equal_false a b n e = let t = same_equal a b e in cc

is_false : (t : Bool) → (t ≡ true → ⊥) → t ≡ false
is_false true h = absurd (h refl)
is_false false h = refl

pub not_equal : (a b : List ℕ) → (a ≡ b → ⊥) → equal a b ≡ false
not_equal a b h = is_false (equal a b) (λ t. h (equal_true a b t))

pub decide : (a b : List ℕ) → Dec (a ≡ b)
decide a b = by_test (equal a b) refl
  where
    by_test : (t : Bool) → equal a b ≡ t → Dec (a ≡ b)
    by_test true e = yes (equal_true a b e)
    by_test false e = no (equal_false a b e)

-- `least`: within the numbers searched; true there, if it is one of them; false at every smaller one.
pub record Least (p : ℕ → Bool) (k n m : ℕ) : Type 0 where
  pub from : n ≤ m
  pub within : m ≤ n + k
  pub hit : m < n + k → p m ≡ true
  pub below : (i : ℕ) → n ≤ i → i < m → p i ≡ false

least_step : (p : ℕ → Bool) (k n m : ℕ) (t : Bool) → p n ≡ t → Least p k (suc n) m → Least p (suc k) n (cond t n m)
least_step p k n m true e s =
    record { from = omega arith; within = omega arith; hit = λ _. e; below = λ i low high. absurd (omega arith) }
least_step p k n m false e s =
    record {
      from = omega (arith, s.from);
      within = omega (arith, s.within);
      hit = λ high. s.hit (omega arith);
      below = λ i low high. below_first i low (ℕ_discrete n i) high;
    }
  where
    below_first : (i : ℕ) → n ≤ i → Dec (n ≡ i) → i < m → p i ≡ false
    below_first i low (yes q) high = subst (λ (j : ℕ). p j ≡ false) q e
    below_first i low (no q) high = s.below i (omega (arith, q)) high

pub least_is : (p : ℕ → Bool) (k n : ℕ) → Least p k n (least p k n)
unfolding least
least_is p zero n =
    record { from = omega arith; within = omega arith; hit = λ high. absurd (omega arith); below = λ i low high. absurd (omega arith) }
least_is p (suc k) n = least_step p k n (least p k (suc n)) (p n) refl (least_is p k (suc n))

-- Lists of one length with equal elements are equal; those with another length are not.
pub equal_all : (a b : List ℕ) → length a ≡ length b → ((k : ℕ) → k < length a → get_or a k 0 ≡ get_or b k 0) → equal a b ≡ true
equal_all a b e h = same_equal a b (ext_get_or 0 a b e h)

pub unequal_lengths : (a b : List ℕ) → (length a ≡ length b → ⊥) → equal a b ≡ false
unequal_lengths a b h = not_equal a b (λ e. h (ap length e))
