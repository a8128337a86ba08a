-- Loops that fill a list from the front, one element a turn.
use mathlib.Core.List.{List}
use mathlib.Core.Path.{◌≡◌, sym, ◌∙◌}
use Prim.Native.Nat.{ℕ, ◌+◌, ◌<◌, ◌≤◌}
use native.Mathlib.Omega.{arith}
use native.Mathlib.Decide.{dec_lt}
use lib.ListN.{length, get_or, take, set, replicate, length-set, length-take, length-replicate, get_or-replicate, get_or-eq_default}
use lib.Seq.{get_or-set_same, get_or-set_other, get_or-take}
use Rattle.simd.specs.Basic.{table}
use Rattle.laws.proofs.Table.{table_of}
use Rattle.bits.specs.Zero.{padded}

-- A list of n elements whose first i are those of g.
pub record Filled (n i : ℕ) (g : ℕ → ℕ) (xs : List ℕ) : Type 0 where
  pub size : length xs ≡ n
  pub front : (k : ℕ) → k < i → get_or xs k 0 ≡ g k

pub filled_none : (n : ℕ) (g : ℕ → ℕ) (xs : List ℕ) → length xs ≡ n → Filled n 0 g xs
filled_none n g xs size = record { size = size; front = λ k below. absurd (omega arith) }

pub filled_more : (n i : ℕ) (g : ℕ → ℕ) (xs : List ℕ) (x : ℕ) → Filled n i g xs → i < n → x ≡ g i → Filled n (i + 1) g (set xs i x)
filled_more n i g xs x f below here =
    record { size = length-set xs i x ∙ f.size; front = front }
  where
    front : (k : ℕ) → k < i + 1 → get_or (set xs i x) k 0 ≡ g k
    front k less = elim (dec_lt k i) [
      | yes before ↦ get_or-set_other xs i k x 0 (λ same. omega arith) ∙ f.front k before
      | no other ↦
          let same : i ≡ k = omega arith in
          rw (← same) (get_or-set_same xs i x 0 (omega (arith, f.size)) ∙ here)
    ]

pub filled_all : (n i : ℕ) (g : ℕ → ℕ) (xs : List ℕ) → Filled n i g xs → n ≤ i → xs ≡ table n g
filled_all n i g xs f end = table_of 0 n g xs f.size (λ k below. f.front k (omega arith))

-- A list of zeros.
pub zeros : (n : ℕ) → replicate {A = ℕ} n 0 ≡ table n (λ _. 0)
zeros n = table_of 0 n (λ _. 0) (replicate {A = ℕ} n 0) (length-replicate {A = ℕ} n 0) (λ k below. get_or-replicate n k 0 0 below)

-- The first n elements of a list.
pub take_table : (n : ℕ) (xs : List ℕ) → n ≤ length xs → take n xs ≡ table n (λ k. get_or xs k 0)
take_table n xs within =
    table_of 0 n (λ k. get_or xs k 0) (take n xs) (omega (arith, length-take n xs)) (λ k below. get_or-take n xs k 0 below)

-- A list of n elements whose first i are those of another, and the others 0.
pub record Copied (n i : ℕ) (from xs : List ℕ) : Type 0 where
  pub filled : Filled n i (λ k. get_or from k 0) xs
  pub rest : (k : ℕ) → i ≤ k → get_or xs k 0 ≡ 0

zero_element : (n k : ℕ) → get_or {A = ℕ} (replicate n 0) k 0 ≡ 0
zero_element n k = elim (dec_lt k n) [
  | yes below ↦ get_or-replicate n k 0 0 below
  | no past ↦ get_or-eq_default (replicate n 0) 0 {n = k} (omega (arith, length-replicate {A = ℕ} n 0))
]

pub copied_none : (n : ℕ) (from : List ℕ) → Copied n 0 from (replicate n 0)
copied_none n from =
    record {
      filled = filled_none n (λ k. get_or from k 0) (replicate n 0) (length-replicate n 0);
      rest = λ k _. zero_element n k;
    }

pub copied_more : (n i : ℕ) (from xs : List ℕ) (x : ℕ) → Copied n i from xs → i < n → x ≡ get_or from i 0 → Copied n (i + 1) from (set xs i x)
copied_more n i from xs x c below same =
    record {
      filled = filled_more n i (λ k. get_or from k 0) xs x c.filled below same;
      rest = λ k after. get_or-set_other xs i k x 0 (λ equal. omega arith) ∙ c.rest k (omega arith);
    }

pub copied_all : (n i : ℕ) (from xs : List ℕ) → Copied n i from xs → length from ≤ i → xs ≡ padded n from
unfolding padded
copied_all n i from xs c end = table_of 0 n (λ k. get_or from k 0) xs c.filled.size (λ k _. each k)
  where
    each : (k : ℕ) → get_or xs k 0 ≡ get_or from k 0
    each k = elim (dec_lt k i) [
      | yes before ↦ c.filled.front k before
      | no after ↦ c.rest k (omega arith) ∙ sym (get_or-eq_default from 0 {n = k} (omega arith))
    ]
