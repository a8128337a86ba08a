-- Tests on lists of numbers and on numbers in a row.
use Rattle.std.specs.Prelude.{Bool, cond, List, ℕ, zero, suc, nat_eq}
use Rattle.std.specs.Cmp.Lexicographic.{pointwise}

-- Two lists are equal: as many numbers, and the same ones in order.
unfoldable pub equal : List ℕ → List ℕ → Bool
equal xs ys = pointwise nat_eq xs ys

-- The smallest of the k numbers n, n + 1, .. at which p is true; where there is none, n + k.
unfoldable pub least : (ℕ → Bool) → ℕ → ℕ → ℕ
least p zero n = n
least p (suc k) n = cond (p n) n (least p k (suc n))
