-- The values of a block and the shape of Z, and what holds at the family of a width.
use mathlib.Core.Bool.{Bool}
use mathlib.Core.List.{List, [], ◌++◌, flatten}
use mathlib.Core.Path.{◌≡◌, sym, ap, ◌∙◌, subst}
use Prim.Native.Nat.{ℕ, ◌<◌, ◌≤◌}
use native.Mathlib.Omega.{arith}
use lib.ListN.{length, get_or, take, drop}
use lib.Seq.{take_at, take_all}
use Rattle.simd.specs.Basic.{Family, small, large, family_of, block_bytes, points, rows, table}
use Rattle.simd.specs.Expansion.{matrix}
use Rattle.laws.proofs.Table.{length_table, get_d_table}
use Rattle.expansion.specs.Output.{IsRows}
use Rattle.expansion.proofs.Values.{values_lt}
use Rattle.trace_values.specs.Values.{values, matrix_rows, matrix_words}

pub points_within : (f : Family) → points f ≤ 256
points_within small = omega arith
points_within large = omega arith

module _ (w : ℕ) (f : Family) (is : family_of w ≡ f) where
  pub sized : {b n : ℕ} → (b ≡ block_bytes (family_of w)) × (points (family_of w) ≤ n) → (b ≡ block_bytes f) × (points f ≤ n)
  sized {b} {n} sizes = subst (λ g. (b ≡ block_bytes g) × (points g ≤ n)) is sizes

  pub put : (what : Family → List ℕ) (out : List ℕ) {l : List ℕ} → l ≡ what f ++ drop (points f) out
      → l ≡ what (family_of w) ++ drop (points (family_of w)) out
  put what out {l} is-put = subst (λ g. l ≡ what g ++ drop (points g) out) (sym is) is-put

  values_size : (last : Bool) (block : List ℕ) → length (values f last block) ≡ points f
  unfolding values
  values_size last block = length_table (points f) _

  -- The values in front of a longer list.
  pub front : (last : Bool) (block rest : List ℕ) {y : List ℕ} → y ≡ values (family_of w) last block ++ drop (points (family_of w)) rest
      → take (points f) y ≡ values f last block
  front last block rest {y} y_is =
      ap (take (points f)) (subst (λ g. y ≡ values g last block ++ drop (points g) rest) is y_is)
      ∙ take_at (values f last block) (drop (points f) rest) (points f) (values_size last block)

  pub whole : (last : Bool) (block rest : List ℕ) {y : List ℕ} → y ≡ values (family_of w) last block ++ drop (points (family_of w)) rest
      → length y ≡ points f → y ≡ values f last block
  whole last block rest {y} y_is size = sym (take_all (points f) y (omega arith)) ∙ front last block rest y_is

module _ (f : Family) (last : Bool) (block : List ℕ) where
  pub values_fit : {e : List ℕ} → e ≡ values f last block → (length e ≡ points f) × ((k : ℕ) → get_or e k 0 < 257)
  unfolding values
  values_fit e-is = (ap length e-is ∙ length_table (points f) _, values_lt (points f) f last block e-is)

  module _ (e : List ℕ) {z : List (List ℕ)} (z_is : z ≡ table 32 (λ i. table (rows f) (matrix f (λ k. get_or e k 0) i))) where
    pub z_rows : IsRows (rows f) z
    z_rows =
        let row : ℕ → List ℕ = λ i. table (rows f) (matrix f (λ k. get_or e k 0) i) in
        record {
          count = ap length z_is ∙ length_table 32 row;
          width = λ k below. ap (λ l. length (get_or l k [])) z_is ∙ ap length (get_d_table 32 row k [] below) ∙ length_table (rows f) _;
        }

    pub z_words : e ≡ values f last block → flatten z ≡ matrix_words f last block
    unfolding matrix_words matrix_rows
    z_words e-is = ap flatten (z_is ∙ ap (λ e. table 32 (λ i. table (rows f) (matrix f (λ k. get_or e k 0) i))) e-is)
