-- A table of m + n places is the table of the first m and that of the n after them.
use mathlib.Core.List.{◌∷◌, ◌++◌}
use mathlib.Core.Path.{◌≡◌, sym, ap, ◌∙◌}
use Prim.Native.Nat.{ℕ, zero, suc, ◌+◌}
use native.Mathlib.Nat.{zero-add, suc-add}
use Rattle.simd.specs.Basic.{table}
use Rattle.laws.proofs.Table.{table_ext}

pub table_append {ℓ} : {A : Type ℓ} (m n : ℕ) (g : ℕ → A) → table (m + n) g ≡ table m g ++ table n (λ k. g (m + k))
unfolding table
table_append zero n g = rw (zero-add n) (table_ext n g (λ k. g (0 + k)) (λ k below. ap g (sym (zero-add k))))
table_append (suc m) n g =
    rw (suc-add m n)
    (ap (λ l. g zero ∷ l)
    (table_append m n (λ k. g (suc k))
    ∙ ap (λ l. table m (λ k. g (suc k)) ++ l)
    (table_ext n (λ k. g (suc (m + k))) (λ k. g (suc m + k)) (λ k below. ap g (sym (suc-add m k))))))
