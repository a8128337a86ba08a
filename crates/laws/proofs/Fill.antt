-- A loop that fills a list from the front: the first `done` places of `l`, which has n, hold the values of g.
use mathlib.Core.Path.{◌≡◌, ◌∙◌}
use Prim.Native.Nat.{ℕ, ◌+◌, ◌<◌, ◌≤◌}
use native.Mathlib.Nat.{not-suc-le-zero}
use native.Mathlib.Decide.{ℕ_discrete}
use native.Mathlib.Omega.{arith}
use mathlib.Core.List.{List}
use lib.ListN.{length, get_or, set, length-set}
use lib.Seq.{get_or-set_same, get_or-set_other}
use Rattle.simd.specs.Basic.{table}
use Rattle.laws.proofs.Table.{table_of}

pub record Filled {ℓ} {A : Type ℓ} (d : A) (n : ℕ) (g : ℕ → A) (done : ℕ) (l : List A) : Type ℓ where
  pub size : length l ≡ n
  pub holds : (k : ℕ) → k < done → get_or l k d ≡ g k

module _ {ℓ} {A : Type ℓ} {d : A} {n : ℕ} {g : ℕ → A} where
  pub filled_none : {l : List A} → length l ≡ n → Filled d n g 0 l
  filled_none e = record { size = e; holds = λ k below. absurd (not-suc-le-zero below) }

  pub filled_more : {done : ℕ} {l : List A} {v : A} → Filled d n g done l → done < n → v ≡ g done → Filled d n g (done + 1) (set l done v)
  filled_more {done} {l} {v} f below e = record { size = length-set l done v ∙ f.size; holds = λ k h. at k h (ℕ_discrete k done) }
    where
      at : (k : ℕ) → k < done + 1 → Dec (k ≡ done) → get_or (set l done v) k d ≡ g k
      at k h (yes same) = rw (same, get_or-set_same l done v d (omega (arith, f.size))) e
      at k h (no other) = get_or-set_other l done k v d other ∙ f.holds k (omega arith)

  pub filled_all : {done : ℕ} {l : List A} → Filled d n g done l → n ≤ done → l ≡ table n g
  filled_all {l = l} f past = table_of d n g l f.size (λ k below. f.holds k (omega arith))
