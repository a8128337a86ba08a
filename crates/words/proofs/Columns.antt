-- A step on an array of columns is the step of the definition.
use Rattle.std.proofs.Common.{◌≡◌, ℕ, ◌+◌, List, [], ◌∷◌, get_or, ap, ◌∙◌, mod-eq_of_lt}
use Rattle.simd.specs.Basic.{Family, rows, table}
use Rattle.simd.specs.Constants.{exchange}
use Rattle.simd.specs.Steps.{add, rotl, choose, rotation, partner, step}
use Rattle.laws.proofs.Table.{table_ext, get_d_table}
use Rattle.words.specs.Columns.{from_columns, columns, new_b, new_a, stepped}
use Rattle.words.proofs.Exchanges.{partner_lt, partner_code}
use Rattle.words.proofs.Rotations.{rotation_below}

module _ (f : Family) (i : ℕ) (w : List ℕ) (l : List (List ℕ)) where
  turned : ℕ → ℕ
  turned j = rotl (rotation i i) (get_or (get_or l 0 []) j 0)

  new_b_lem : new_b f (rotation i i) (get_or l 0 []) ≡ table (rows f) turned
  unfolding new_b turned
  new_b_lem = ap (λ r. table (rows f) (λ j. rotl r (get_or (get_or l 0 []) j 0))) (mod-eq_of_lt (rotation_below i i))

  sum : ℕ → ℕ
  sum j = add (add (get_or (get_or l 3 []) j 0) (get_or w j 0)) (choose i (get_or (get_or l 0 []) j 0) (get_or (get_or l 1 []) j 0) (get_or (get_or l 2 []) j 0))

  new_a_lem : new_a f i (rotation i (i + 1)) (exchange f i) w (new_b f (rotation i i) (get_or l 0 [])) l
      ≡ table (rows f) (λ j. add (rotl (rotation i (i + 1)) (sum j)) (turned (partner f i j)))
  unfolding new_a sum
  new_a_lem =
      table_ext (rows f) _ _
      (λ j below.
      let r_is = mod-eq_of_lt (rotation_below i (i + 1)) in
      let y_is = partner_code f i j below in
      (λ t. add (rotl (r_is t) (sum j)) (get_or (new_b_lem t) (y_is t) 0))
      ∙ ap (add (rotl (rotation i (i + 1)) (sum j))) (get_d_table (rows f) turned (partner f i j) 0 (partner_lt f i j below)))

  pub stepped_step : stepped f i w l ≡ columns (step f i w (from_columns l))
  unfolding stepped turned sum step
  stepped_step = λ t. new_a_lem t ∷ new_b_lem t ∷ get_or l 1 [] ∷ get_or l 2 [] ∷ []

  -- From its parts: new B, the numbers of new A, and new A.
  pub stepped_parts : {a b : List ℕ} {s x : ℕ} → b ≡ new_b f (rotation i i) (get_or l 0 []) → s ≡ rotation i (i + 1) → x ≡ exchange f i →
      a ≡ new_a f i s x w b l → a ∷ b ∷ get_or l 1 [] ∷ get_or l 2 [] ∷ [] ≡ stepped f i w l
  unfolding stepped
  stepped_parts b-is s-is x_is a-is =
      let a_step = a-is ∙ (λ t. new_a f i (s-is t) (x_is t) w (b-is t) l) in
      λ t. a_step t ∷ b-is t ∷ get_or l 1 [] ∷ get_or l 2 [] ∷ []
