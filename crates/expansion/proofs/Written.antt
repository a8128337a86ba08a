-- Rows written one after another: the first i rows of r words, and what was there after them.
use mathlib.Core.List.{List, [], ◌∷◌, ◌++◌, flatten, append-nil, append_assoc}
use mathlib.Core.Path.{◌≡◌, refl, sym, ap, ◌∙◌}
use Prim.Native.Nat.{ℕ, ◌+◌, ◌*◌, ◌<◌, ◌≤◌}
use native.Mathlib.Nat.{mul-zero}
use native.Mathlib.Numerals.{add-one}
use native.Mathlib.Omega.{arith}
use lib.ListN.{length, get_or, set, take, drop, length-append, length-set}
use lib.Seq.{paste, paste-zero, paste-suc, length-paste, take_at, drop_at, take-length, drop-drop}
use Rattle.simd.specs.Basic.{table}
use Rattle.laws.proofs.Table.{table_suc, table_of}

flatten_append : (a b : List (List ℕ)) → flatten (a ++ b) ≡ flatten a ++ flatten b
unfolding flatten
flatten_append [] b = refl
flatten_append (x ∷ a) b = ap (λ l. x ++ l) (flatten_append a b) ∙ sym (append_assoc x (flatten a) (flatten b))

flatten_suc : (i : ℕ) (g : ℕ → List ℕ) → flatten (table (i + 1) g) ≡ flatten (table i g) ++ g i
unfolding flatten
flatten_suc i g = rw (add-one i, table_suc i g, flatten_append (table i g) (g i ∷ []), append-nil (g i))

pub record Written (r : ℕ) (g : ℕ → List ℕ) (before : List ℕ) (i : ℕ) (l : List ℕ) : Type 0 where
  pub is : l ≡ flatten (table i g) ++ drop (r * i) before
  pub head : length (flatten (table i g)) ≡ r * i
  pub size : length l ≡ length before

module _ {r : ℕ} {g : ℕ → List ℕ} {before : List ℕ} where
  pub written_none : Written r g before 0 before
  unfolding table flatten
  written_none = record { is = rw (mul-zero r); head = sym (mul-zero r); size = refl }

  pub written_more : {i : ℕ} {l m : List ℕ} → Written r g before i l → m ≡ paste l (r * i) (g i) (length (g i)) → length (g i) ≡ r → r * i + r ≤ length before
      → Written r g before (i + 1) m
  written_more {i} {l} {m} w put wide room =
      let row = g i in
      let head = flatten (table i g) in
      let place : r * i + length row ≡ r * (i + 1) = omega arith in
      let start : take (r * i) l ≡ head = ap (take (r * i)) w.is ∙ take_at head (drop (r * i) before) (r * i) w.head in
      let rest : drop (r * i + length row) l ≡ drop (r * i + length row) before =
      sym (drop-drop (length row) (r * i) l)
      ∙ ap (λ t. drop (length row) t) (ap (drop (r * i)) w.is ∙ drop_at head (drop (r * i) before) (r * i) w.head)
      ∙ drop-drop (length row) (r * i) before in
      let pasted : paste l (r * i) row (length row) ≡ flatten (table (i + 1) g) ++ drop (r * i + length row) before =
      rw (start, rest, take-length row, flatten_suc i g) in
      record {
        is = put ∙ pasted ∙ ap (λ n. flatten (table (i + 1) g) ++ drop n before) place;
        head = ap length (flatten_suc i g) ∙ length-append (flatten (table i g)) (g i) ∙ omega (arith, w.head);
        size = ap length put ∙ length-paste l (r * i) row (length row) (omega arith) (omega arith) ∙ w.size;
      }

-- All n rows.
pub written_all : (r n : ℕ) (rows : List (List ℕ)) {before l : List ℕ} {i : ℕ} → length rows ≡ n → Written r (λ k. get_or rows k []) before i l → i ≤ n → n ≤ i
    → l ≡ flatten rows ++ drop (r * n) before
written_all r n rows {before} {i = i} count w below past =
    let done : i ≡ n = omega arith in
    w.is ∙ ap (λ k. flatten (table k (λ j. get_or rows j [])) ++ drop (r * k) before) done
    ∙ ap (λ rs. flatten rs ++ drop (r * n) before) (sym (table_of [] n (λ j. get_or rows j []) rows count (λ j inside. refl)))

-- One row being written from place at on: its first j words.
pub record Pasted (before : List ℕ) (at : ℕ) (row : List ℕ) (j : ℕ) (l : List ℕ) : Type 0 where
  pub is : l ≡ paste before at row j
  pub size : length l ≡ length before

module _ {before : List ℕ} {at : ℕ} {row : List ℕ} where
  pub pasted_none : Pasted before at row 0 before
  pasted_none = record { is = paste-zero before at row; size = refl }

  pub pasted_more : {j : ℕ} {l : List ℕ} → Pasted before at row j l → at + j < length before → j < length row
      → Pasted before at row (j + 1) (set l (at + j) (get_or row j 0))
  pasted_more {j} {l} p room more =
      record {
        is = rw (p.is, add-one j) (paste-suc before at row j 0 room more);
        size = length-set l (at + j) (get_or row j 0) ∙ p.size;
      }

  pub pasted_all : {j : ℕ} {l : List ℕ} → Pasted before at row j l → j ≤ length row → length row ≤ j → l ≡ paste before at row (length row)
  pasted_all {j} p below past = let done : j ≡ length row = omega arith in p.is ∙ ap (λ n. paste before at row n) done
