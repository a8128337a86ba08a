-- Laws of `table`, the list of a function's first values, and of a test over a whole list.
use mathlib.Core.Bool.{Bool, true, false, ◌&&◌}
use mathlib.Core.List.{List, [], ◌∷◌, ◌++◌}
use mathlib.Core.Path.{◌≡◌, refl, sym, ap, ◌∙◌, subst}
use Prim.Native.Nat.{ℕ, zero, suc, ◌+◌, ◌<◌, ◌≤◌}
use native.Mathlib.Nat.{add-zero, zero-add, add-suc, suc-add, le_of_suc-le-suc, not-suc-le-zero}
use native.Mathlib.Numerals.{add-one}
use native.Mathlib.Omega.{arith}
use lib.Dec.{T}
use lib.ListN.{length, get_or}
use lib.Seq.{ext_get_or}
use Rattle.simd.specs.Basic.{table}

pub length_table {ℓ} : {A : Type ℓ} (n : ℕ) (g : ℕ → A) → length (table n g) ≡ n
unfolding table
length_table zero g = refl
length_table (suc n) g = ap suc (length_table n (λ k. g (suc k)))

pub get_d_table {ℓ} : {A : Type ℓ} (n : ℕ) (g : ℕ → A) (i : ℕ) (d : A) → i < n → get_or (table n g) i d ≡ g i
unfolding table
get_d_table zero g i d h = absurd (not-suc-le-zero h)
get_d_table (suc n) g zero d h = refl
get_d_table (suc n) g (suc i) d h = get_d_table n (λ k. g (suc k)) i d (le_of_suc-le-suc h)

-- A list is the table of its elements.
pub table_of {ℓ} : {A : Type ℓ} (d : A) (n : ℕ) (g : ℕ → A) (l : List A) → length l ≡ n → ((i : ℕ) → i < n → get_or l i d ≡ g i) → l ≡ table n g
table_of d n g l e h =
    ext_get_or d l (table n g) (e ∙ sym (length_table n g))
    (λ i below.
    let small : i < n = omega arith in
    h i small ∙ sym (get_d_table n g i d small))

-- Two tables are equal where their functions agree on the places below n.
pub table_ext {ℓ} : {A : Type ℓ} (n : ℕ) (g h : ℕ → A) → ((i : ℕ) → i < n → g i ≡ h i) → table n g ≡ table n h
unfolding table
table_ext zero g h e = refl
table_ext (suc n) g h e =
    let rest = table_ext n (λ k. g (suc k)) (λ k. h (suc k)) (λ k below. e (suc k) (omega arith)) in
    let first = e zero (omega arith) in
    λ i. first i ∷ rest i

-- One place more, at the end.
pub table_suc {ℓ} : {A : Type ℓ} (n : ℕ) (g : ℕ → A) → table (suc n) g ≡ table n g ++ (g n ∷ [])
unfolding table
table_suc zero g = refl
table_suc (suc n) g = ap {B = List _} (λ l. g zero ∷ l) (table_suc n (λ k. g (suc k)))

-- A rule of a list, tested at all of its elements by one computation.
abbrev pub every {ℓ} : {A : Type ℓ} → (ℕ → A → Bool) → ℕ → List A → Bool
every f i [] = true
every f i (x ∷ xs) = f i x && every f (suc i) xs

both_left : (a b : Bool) → T (a && b) → T a
both_left true b t = tt
both_left false b t = t

both_right : (a b : Bool) → T (a && b) → T b
both_right true b t = t
both_right false b t = absurd t

every_from {ℓ} : {A : Type ℓ} (f : ℕ → A → Bool) (d : A) (xs : List A) (i : ℕ) → T (every f i xs) → (k : ℕ) → k < length xs → T (f (i + k) (get_or xs k d))
every_from f d [] i t k h = absurd (not-suc-le-zero h)
every_from f d (x ∷ xs) i t zero h = subst (λ (m : ℕ). T (f m x)) (sym (add-zero i)) (both_left (f i x) (every f (suc i) xs) t)
every_from f d (x ∷ xs) i t (suc k) h =
    subst (λ (m : ℕ). T (f m (get_or xs k d))) (suc-add i k ∙ sym (add-suc i k))
    (every_from f d xs (suc i) (both_right (f i x) (every f (suc i) xs) t) k (le_of_suc-le-suc h))

pub every_at {ℓ} : {A : Type ℓ} (f : ℕ → A → Bool) (d : A) (xs : List A) → T (every f 0 xs) → (k : ℕ) → k < length xs → T (f k (get_or xs k d))
every_at f d xs t k h = subst (λ (m : ℕ). T (f m (get_or xs k d))) (zero-add k) (every_from f d xs 0 t k h)
