-- The rotations read off the table: every count lies between 1 and 31.
use Rattle.std.proofs.Common.{◌≡◌, ℕ, ◌+◌, ◌/◌, ◌%◌, ◌<◌, min, eqb, ltb, List, [], length, get_or, ap, mod-lt, arith, lit<, eqb→eq, ltb→lt}
use Rattle.simd.specs.Constants.{rotations}
use Rattle.simd.specs.Steps.{rotation}
use Rattle.laws.proofs.Table.{every, every_at}

module _ (n k : ℕ) (in_table : n < 4) (in_row : k < 4) where
  four : length (get_or rotations n []) ≡ 4
  unfolding rotations
  four = eqb→eq _ _ (every_at (λ _ row. eqb (length row) 4) [] rotations tt n in_table)

  above : 0 < get_or (get_or rotations n []) k 0
  unfolding rotations
  above =
      ltb→lt _ _
      (every_at (λ _ r. ltb 0 r) 0 (get_or rotations n []) (every_at (λ _ row. every (λ _ r. ltb 0 r) 0 row) [] rotations tt n in_table) k
      (omega (arith, four)))

  below : get_or (get_or rotations n []) k 0 < 32
  unfolding rotations
  below =
      ltb→lt _ _
      (every_at (λ _ r. ltb r 32) 0 (get_or rotations n []) (every_at (λ _ row. every (λ _ r. ltb r 32) 0 row) [] rotations tt n in_table) k
      (omega (arith, four)))

pub rotation_above : (i k : ℕ) → 0 < rotation i k
unfolding rotation
rotation_above i k = above (min (i / 8) 3) (k % 4) (omega arith) (mod-lt k (lit< tt))

pub rotation_below : (i k : ℕ) → rotation i k < 32
unfolding rotation
rotation_below i k = below (min (i / 8) 3) (k % 4) (omega arith) (mod-lt k (lit< tt))

-- Entry i + 1 of a quadruple, reduced first.
pub next_rotation : (i : ℕ) → rotation i (i % 4 + 1) ≡ rotation i (i + 1)
unfolding rotation
next_rotation i =
    let same : (i % 4 + 1) % 4 ≡ (i + 1) % 4 = omega arith in
    ap (λ k. get_or (get_or rotations (min (i / 8) 3) []) k 0) same

pub rotation_read : {q : List (List ℕ)} {n : ℕ} (i k : ℕ) → q ≡ rotations → n ≡ min (i / 8) 3 →
    (get_or (get_or q n []) (k % 4) 0 ≡ rotation i k) × ((0 < get_or (get_or q n []) (k % 4) 0) × (get_or (get_or q n []) (k % 4) 0 < 32))
unfolding rotation
rotation_read {q} {n} i k q-is n-is =
    let same : get_or (get_or q n []) (k % 4) 0 ≡ rotation i k = λ t. get_or (get_or (q-is t) (n-is t) []) (k % 4) 0 in
    (same, (omega (arith, same, rotation_above i k), omega (arith, same, rotation_below i k)))
