-- Laws of `all_zero`, `clear` and `padded`.
use mathlib.Core.Bool.{Bool, true, false, ◌&&◌}
use mathlib.Core.List.{List, [], ◌∷◌}
use mathlib.Core.Path.{◌≡◌, refl, sym, ap, ◌∙◌}
use Prim.Native.Nat.{ℕ, zero, suc, ◌+◌, ◌-◌, ◌<◌, ◌≤◌, ◌*◌}
use native.Mathlib.Omega.{arith}
use native.Mathlib.Decide.{dec_lt}
use borrow.Author.Tests.{eqb-true, eq-eqb}
use lib.Bits.{bit_or, or_add_and, and_le_r, or_zero_l}
use Rattle.std.specs.List.{fold}
use lib.Dec.{eqb, eqb-suc-zero}
use lib.ListN.{length, get_or, take, drop, length-take, length-drop, get_or-eq_default}
use lib.Seq.{get_or-drop, get_or-take, ext_get_or}
use Rattle.simd.specs.Message.{bits_of, byte_of}
use Rattle.laws.proofs.Table.{length_table, get_d_table, table_of}
use Rattle.laws.proofs.Bits.{get_d_take_past, byte_ext, byte_bits_of, byte_past}
use Rattle.bits.specs.Zero.{all_zero, clear, padded}

pub and_left : (a b : Bool) → (a && b) ≡ true → a ≡ true
and_left true b e = refl
and_left false b e = e

pub and_right : (a b : Bool) → (a && b) ≡ true → b ≡ true
and_right true b e = e
and_right false b e = cc

and_true : (a : Bool) → (a && true) ≡ a
and_true true = refl
and_true false = refl

and_assoc : (a b c : Bool) → ((a && b) && c) ≡ (a && (b && c))
and_assoc true b c = refl
and_assoc false b c = refl

pub zero_at : (xs : List ℕ) → all_zero xs ≡ true → (i : ℕ) → get_or xs i 0 ≡ 0
unfolding all_zero
zero_at [] all i = refl
zero_at (x ∷ xs) all zero = eqb-true x 0 (and_left (eqb x 0) (all_zero xs) all)
zero_at (x ∷ xs) all (suc i) = zero_at xs (and_right (eqb x 0) (all_zero xs) all) i

pub all_zero_lem : (xs : List ℕ) → ((i : ℕ) → i < length xs → get_or xs i 0 ≡ 0) → all_zero xs ≡ true
unfolding all_zero
all_zero_lem [] at = refl
all_zero_lem (x ∷ xs) at =
    let first = eq-eqb x 0 (at zero (omega arith)) in
    let rest = all_zero_lem xs (λ i below. at (suc i) (omega arith)) in
    rw (first, rest)

pub zero_past : (n : ℕ) (xs : List ℕ) → ((i : ℕ) → n ≤ i → i < length xs → get_or xs i 0 ≡ 0) → all_zero (drop n xs) ≡ true
zero_past n xs at =
    all_zero_lem (drop n xs) (λ i below. get_or-drop n xs i 0 ∙ at (n + i) (omega arith) (omega (arith, length-drop n xs)))

pub false_of : (b : Bool) → (b ≡ true → ⊥) → b ≡ false
false_of true never = absurd (never refl)
false_of false never = refl

pub past_zero : (n : ℕ) (xs : List ℕ) → all_zero (drop n xs) ≡ true → (i : ℕ) → n ≤ i → get_or xs i 0 ≡ 0
past_zero n xs zeros i past =
    let place : n + (i - n) ≡ i = omega arith in
    rw place at (sym (get_or-drop n xs (i - n) 0) ∙ zero_at (drop n xs) zeros (i - n))

-- The or of all numbers of a list and one before them is 0 exactly where all of these are.
either_zero : (s x : ℕ) → eqb (bit_or s x) 0 ≡ (eqb s 0 && eqb x 0)
either_zero zero x = rw (or_zero_l x)
either_zero (suc s) x =
    let both = or_add_and (suc s) x in
    let right = and_le_r (suc s) x in
    false_of (eqb (bit_or (suc s) x) 0) (λ none. absurd (omega (arith, eqb-true (bit_or (suc s) x) 0 none, both, right)))
    ∙ ap (λ b. b && eqb x 0) (sym (eqb-suc-zero s))

or_from : (s : ℕ) (xs : List ℕ) → eqb (fold bit_or s xs) 0 ≡ (eqb s 0 && all_zero xs)
unfolding all_zero
or_from s [] = sym (and_true (eqb s 0))
or_from s (x ∷ xs) = or_from (bit_or s x) xs ∙ ap (λ b. b && all_zero xs) (either_zero s x) ∙ and_assoc (eqb s 0) (eqb x 0) (all_zero xs)

pub or_zero : (xs : List ℕ) (seen : ℕ) → seen ≡ fold bit_or 0 xs → eqb seen 0 ≡ all_zero xs
or_zero xs seen all = ap (λ n. eqb n 0) all ∙ or_from 0 xs

-- Past place n.
pub clear_at : (n : ℕ) (bytes : List ℕ) → clear n bytes ≡ true → (i : ℕ) → n ≤ i → get_or (bits_of bytes) i 0 ≡ 0
unfolding clear
clear_at n bytes all i past =
    let place : n + (i - n) ≡ i = omega arith in
    rw place at (sym (get_or-drop n (bits_of bytes) (i - n) 0) ∙ zero_at (drop n (bits_of bytes)) all (i - n))

pub clear_of : (n : ℕ) (bytes : List ℕ) → ((i : ℕ) → n ≤ i → get_or (bits_of bytes) i 0 ≡ 0) → clear n bytes ≡ true
unfolding clear
clear_of n bytes at = all_zero_lem (drop n (bits_of bytes)) (λ i _. get_or-drop n (bits_of bytes) i 0 ∙ at (n + i) (omega arith))

-- Words and bytes past a list's end.
pub take_padded : (n k : ℕ) (xs : List ℕ) → length xs ≡ k → k ≤ n → take k (padded n xs) ≡ xs
unfolding padded
take_padded n k xs long within =
    let size : length (take k (padded n xs)) ≡ length xs = omega (arith, length-take k (padded n xs), length_table n (λ i. get_or xs i 0)) in
    ext_get_or 0 (take k (padded n xs)) xs size
    (λ i below.
    get_or-take k (padded n xs) i 0 (omega arith) ∙ get_d_table n (λ i. get_or xs i 0) i 0 (omega arith))

pub length_padded : (n : ℕ) (xs : List ℕ) → length (padded n xs) ≡ n
unfolding padded
length_padded n xs = length_table n (λ i. get_or xs i 0)

pub get_d_padded : (n : ℕ) (xs : List ℕ) (i : ℕ) → length xs ≤ n → get_or (padded n xs) i 0 ≡ get_or xs i 0
unfolding padded
get_d_padded n xs i within = elim (dec_lt i n) [
  | yes below ↦ get_d_table n (λ i. get_or xs i 0) i 0 below
  | no past ↦
      get_or-eq_default (padded n xs) 0 {n = i} (omega (arith, length_table n (λ i. get_or xs i 0)))
      ∙ sym (get_or-eq_default xs 0 {n = i} (omega arith))
]

pub padded_past : (n k : ℕ) (xs : List ℕ) → length xs ≤ k → all_zero (drop k (padded n xs)) ≡ true
unfolding padded
padded_past n k xs past =
    all_zero_lem (drop k (padded n xs))
    (λ i below.
    let within : k + i < n = omega (arith, length-drop k (padded n xs), length_table n (λ i. get_or xs i 0)) in
    get_or-drop k (padded n xs) i 0 ∙ get_d_table n (λ i. get_or xs i 0) (k + i) 0 within
    ∙ get_or-eq_default xs 0 {n = k + i} (omega arith))

-- A list that is 0 from place k on is its first k elements and zeros.
pub padded_take : (n k : ℕ) (xs : List ℕ) → length xs ≡ n → all_zero (drop k xs) ≡ true → padded n (take k xs) ≡ xs
unfolding padded
padded_take n k xs long zeros =
    sym (table_of 0 n (λ i. get_or (take k xs) i 0) xs long (λ i below. same i))
  where
    same : (i : ℕ) → get_or xs i 0 ≡ get_or (take k xs) i 0
    same i = elim (dec_lt i k) [
      | yes before ↦ sym (get_or-take k xs i 0 before)
      | no past ↦
          let place : k + (i - k) ≡ i = omega arith in
          let none = rw place at (sym (get_or-drop k xs (i - k) 0) ∙ zero_at (drop k xs) zeros (i - k)) in
          none ∙ sym (get_d_take_past k xs i (omega arith))
    ]

-- A byte string that is clear from bit n on has the bytes of its first n bits.
pub byte_clear : (n : ℕ) (bytes : List ℕ) (j : ℕ) → clear n bytes ≡ true → get_or bytes j 0 < 256 → byte_of (take n (bits_of bytes)) j ≡ get_or bytes j 0
byte_clear n bytes j zeros fits =
    byte_ext (take n (bits_of bytes)) (bits_of bytes) j j (λ t _. same (8 * j + t)) ∙ byte_bits_of bytes j fits
  where
    same : (i : ℕ) → get_or (take n (bits_of bytes)) i 0 ≡ get_or (bits_of bytes) i 0
    same i = elim (dec_lt i n) [
      | yes before ↦ get_or-take n (bits_of bytes) i 0 before
      | no past ↦ get_d_take_past n (bits_of bytes) i (omega arith) ∙ sym (clear_at n bytes zeros i (omega arith))
    ]

-- Bytes past the block of a byte string that is clear from within that block on.
pub bytes_past : (n z : ℕ) (bytes : List ℕ) → ((i : ℕ) → get_or bytes i 0 < 256) → clear n bytes ≡ true → n ≤ 8 * z → all_zero (drop z bytes) ≡ true
bytes_past n z bytes fits zeros within =
    all_zero_lem (drop z bytes)
    (λ i _.
    get_or-drop z bytes i 0
    ∙ sym (byte_clear n bytes (z + i) zeros (fits (z + i)))
    ∙ byte_past (take n (bits_of bytes)) (z + i) (omega (arith, length-take n (bits_of bytes))))
