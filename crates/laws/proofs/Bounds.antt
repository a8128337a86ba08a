-- Lists whose numbers are all below a bound n, the 0 past their ends too.
use mathlib.Core.List.{List, [], ◌∷◌, ◌++◌}
use Prim.Native.Nat.{ℕ, zero, suc, ◌<◌}
use native.Mathlib.Omega.{arith}
use lib.ListN.{get_or, take}
use Rattle.simd.specs.Basic.{table}

pub below_append : (n : ℕ) (l m : List ℕ) → ((i : ℕ) → get_or l i 0 < n) → ((i : ℕ) → get_or m i 0 < n) → (i : ℕ) → get_or (l ++ m) i 0 < n
below_append n [] m left right i = right i
below_append n (x ∷ l) m left right zero = left zero
below_append n (x ∷ l) m left right (suc i) = below_append n l m (λ k. left (suc k)) right i

pub below_take : (n k : ℕ) (l : List ℕ) → ((i : ℕ) → get_or l i 0 < n) → (i : ℕ) → get_or (take k l) i 0 < n
below_take n zero l all i = omega (arith, all 0)
below_take n (suc k) [] all i = all i
below_take n (suc k) (x ∷ l) all zero = all zero
below_take n (suc k) (x ∷ l) all (suc i) = below_take n k l (λ j. all (suc j)) i

pub below_table : (n k : ℕ) (g : ℕ → ℕ) → ((j : ℕ) → g j < n) → (i : ℕ) → get_or (table k g) i 0 < n
unfolding table
below_table n zero g all i = omega (arith, all 0)
below_table n (suc k) g all zero = all zero
below_table n (suc k) g all (suc i) = below_table n k (λ j. g (suc j)) (λ j. all (suc j)) i
