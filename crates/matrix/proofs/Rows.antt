-- Rows: one as a list of its words, and P as a choice among 32 of them.
use Rattle.std.proofs.Common.{◌≡◌, ℕ, zero, suc, ◌+◌, ◌*◌, ◌<◌, ◌≤◌, List, ◌∷◌, length, get_or, take, drop, refl, ap, ◌∙◌, arith}
use Rattle.std.proofs.Math.Nat.{suc-mul}
use Rattle.std.proofs.lemmas.List.{length-take-le, length-drop, get_or-take, get_or-drop}
use lib.Dec.{ltb, ltb→lt}
use Rattle.std.specs.Simd.{first_chunks}
use Rattle.simd.specs.Basic.{table}
use Rattle.simd.specs.Constants.{order}
use Rattle.laws.proofs.Table.{every_at, table_of, table_ext}
use Rattle.matrix.specs.Rows.{row}

-- The first k chunks of n words are the first k rows.
pub chunks_rows : (n k : ℕ) (xs : List ℕ) → k * n ≤ length xs → first_chunks n k xs ≡ table k (row n xs)
unfolding row table
chunks_rows n zero xs fits = refl
chunks_rows n (suc k) xs fits =
    let all = suc-mul k n in
    let first : take n xs ≡ row n xs 0 =
    table_of 0 n (λ j. get_or xs (n * 0 + j) 0) (take n xs) (length-take-le n xs (omega arith))
    (λ j below. get_or-take n xs j 0 below ∙ ap (λ p. get_or xs p 0) (omega arith)) in
    let rest = chunks_rows n k (drop n xs) (omega (arith, length-drop n xs)) in
    let same = table_ext k (row n (drop n xs)) (λ i. row n xs (suc i))
    (λ i below.
    table_ext n (λ j. get_or (drop n xs) (n * i + j) 0) (λ j. get_or xs (n * suc i + j) 0)
    (λ j inside. get_or-drop n xs (n * i + j) 0 ∙ ap (λ p. get_or xs p 0) (omega arith))) in
    λ t. first t ∷ (rest ∙ same) t

-- Each entry of P is a row of Z.
entry_lt : (i : ℕ) → i < 32 → get_or order i 0 < 32
unfolding order
entry_lt i below = ltb→lt (get_or order i 0) 32 (every_at (λ k x. ltb x 32) 0 order tt i below)

pub order_lt : {p : List ℕ} (i : ℕ) → p ≡ order → i < 32 → get_or p i 0 < 32
order_lt i is below = rw is (entry_lt i below)
