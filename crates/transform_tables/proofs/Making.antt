-- The table of roots, made from the last entry to the first.
use mathlib.Core.List.{List}
use mathlib.Core.Logic.{◌≢◌}
use mathlib.Core.Path.{◌≡◌, sym, ap, ◌∙◌}
use Prim.Native.Nat.{ℕ, ◌+◌, ◌*◌, ◌-◌, ◌<◌, ◌≤◌}
use native.Mathlib.Omega.{arith}
use native.Mathlib.Decide.{dec_lt}
use lib.Dec.{T, eqb, eqb→eq, ltb, ltb→lt}
use lib.ListN.{length, get_or, set, length-set}
use lib.Seq.{get_or-set_same, get_or-set_other}
use Rattle.simd.specs.Expansion.{power}
use Rattle.laws.proofs.Below.{below, below_at}
use Rattle.laws.proofs.Field.{power_lt}
use Rattle.laws.proofs.Stores.{Stored}
use Rattle.transform_tables.specs.Roots.{exponent, Begun, Roots}

-- Of the powers from the first on, every step-th is an entry of the last row or of one before it.
abbrev pub fit : ℕ → ℕ → ℕ → ℕ → Type 0
fit at first step n = (k : ℕ) → k < n → (first + step * k < 256) × (exponent 7 (at + k) ≡ first + step * k)

pub fit_in : (at first step n : ℕ) → T (below n (λ k. ltb (first + step * k) 256)) → T (below n (λ k. eqb (exponent 7 (at + k)) (first + step * k)))
    → fit at first step n
fit_in at first step n inside same k h = (
  ltb→lt (first + step * k) 256 (below_at n (λ k. ltb (first + step * k) 256) inside k h),
  eqb→eq (exponent 7 (at + k)) (first + step * k) (below_at n (λ k. eqb (exponent 7 (at + k)) (first + step * k)) same k h),
)

pub begun_none : (t : List ℕ) → length t ≡ 512 → Begun t 256
begun_none t size =
    record { size = size; entry = λ j from below. absurd (omega arith); scaled = λ j from below. absurd (omega arith) }

-- Entries of a row more.
module _ (t t' : List ℕ) (at first step n : ℕ) (places : (0 < at) × (at + n ≤ 256)) (exponents : fit at first step n) (done : Begun t (at + n))
    (row : Stored (λ k a b. (a ≡ power 41 (first + step * k)) × (b ≡ 255 * power 41 (first + step * k))) (λ k. at + k) (λ k. 256 + at + k) t t' n) where
  other : (i : ℕ) → (at ≤ i → at + n ≤ i) → (256 + at ≤ i → 256 + at + n ≤ i) → get_or t' i 0 ≡ get_or t i 0
  other i low high = row.others i (λ k below. ((λ e. omega (arith, low (omega arith))), (λ e. omega (arith, high (omega arith)))))

  here : (j : ℕ) → at ≤ j → j < at + n → (get_or t' j 0 ≡ power 41 (exponent 7 j)) × (get_or t' (256 + j) 0 ≡ 255 * power 41 (exponent 7 j))
  here j from below =
      let k : ℕ = j - at in
      let place : at + k ≡ j = omega arith in
      let second : 256 + at + k ≡ 256 + j = omega arith in
      let pair = row.pairs k (omega arith) in
      let same = ap (power 41) (sym (exponents k (omega arith)).1 ∙ ap (exponent 7) place) in (
        ap (λ p. get_or t' p 0) (sym place) ∙ pair.0 ∙ same,
        ap (λ p. get_or t' p 0) (sym second) ∙ pair.1 ∙ ap (λ v. 255 * v) same,
      )

  pub begun_more : Begun t' at
  begun_more =
      record {
        size = omega (arith, row.size, done.size);
        entry = λ j from below. elim (dec_lt j (at + n)) [
          | yes less ↦ (here j from less).0
          | no past ↦ other j (λ low. omega arith) (λ high. omega arith) ∙ done.entry j (omega arith) below
        ];
        scaled = λ j from below. elim (dec_lt j (at + n)) [
          | yes less ↦ (here j from less).1
          | no past ↦ other (256 + j) (λ low. omega arith) (λ high. omega arith) ∙ done.scaled j (omega arith) below
        ];
      }

-- The exponents of the last row, and of each other entry: those of the entry at twice its place.
last_exponent : (k : ℕ) → k < 128 → exponent 7 (128 + k) ≡ k
unfolding exponent
last_exponent k h = eqb→eq (exponent 7 (128 + k)) k (below_at 128 (λ k. eqb (exponent 7 (128 + k)) k) tt k h)

next_exponent : (i : ℕ) → i < 128 → exponent 7 i ≡ exponent 7 (2 * i)
unfolding exponent
next_exponent i h = eqb→eq (exponent 7 i) (exponent 7 (2 * i)) (below_at 128 (λ i. eqb (exponent 7 i) (exponent 7 (2 * i))) tt i h)

-- The modulus, and a number that no one reads, after all others.
module _ (t : List ℕ) (made : Begun t 1) where
  abbrev whole : List ℕ
  whole = set (set t 0 257) 256 65535

  kept : (i : ℕ) → 0 < i → i ≢ 256 → get_or whole i 0 ≡ get_or t i 0
  kept i low other = get_or-set_other (set t 0 257) 256 i 65535 0 other ∙ get_or-set_other t 0 i 257 0 (λ (e : i ≡ 0). omega arith)

  entry : (i : ℕ) → 0 < i → i < 256 → get_or whole i 0 ≡ power 41 (exponent 7 i)
  entry i low high = kept i low (λ (e : i ≡ 256). omega arith) ∙ made.entry i low high

  pub roots_made : Roots whole
  roots_made =
      record {
        size = omega (arith, length-set (set t 0 257) 256 65535, length-set t 0 257, made.size);
        modulus = get_or-set_other (set t 0 257) 256 0 65535 0 (λ (e : 0 ≡ 256). omega arith) ∙ get_or-set_same t 0 257 0 (omega (arith, made.size));
        last_row = λ k h. entry (128 + k) (omega arith) (omega arith) ∙ ap (power 41) (last_exponent k h);
        each_row = λ i low high. entry i low (omega arith) ∙ ap (power 41) (next_exponent i high) ∙ sym (entry (2 * i) (omega arith) (omega arith));
        below = λ i low high. rw (entry i low high) (power_lt 41 (exponent 7 i));
        scaled =
            λ i low high.
            kept (256 + i) (omega arith) (λ (e : 256 + i ≡ 256). omega arith) ∙ made.scaled i low high ∙ ap (λ v. 255 * v) (sym (entry i low high));
      }
