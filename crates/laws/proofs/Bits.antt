-- Laws of bits in bytes: `bits_of`, `byte_of`, and what becomes of bytes where bits are put behind bits.
use mathlib.Core.List.{List, [], ◌∷◌, ◌++◌}
use mathlib.Core.Path.{◌≡◌, refl, sym, ap, ◌∙◌}
use Prim.Native.Nat.{ℕ, zero, suc, ◌+◌, ◌*◌, ◌-◌, ◌/◌, ◌%◌, ◌^◌, ◌<◌, ◌≤◌}
use native.Mathlib.Nat.{add-zero, add-suc, pow-zero, pow-suc, zero-div, zero-mod, mod-lt, mod-one, mod-eq_of_lt, not-suc-le-zero}
use native.Mathlib.Omega.{arith}
use native.Mathlib.Decide.{dec_lt}
use lib.Dec.{lit<}
use lib.ListN.{length, get_or, take, drop, length-append, length-take, get_or-append, get_or-eq_default}
use lib.Pow.{high, low, shr-shr, mod-pow-add}
use lib.Seq.{get_or-append-add, get_or-take, get_or-drop}
use Rattle.simd.specs.Basic.{table, sum}
use Rattle.simd.specs.Message.{bits_of, byte_of}
use Rattle.laws.proofs.Table.{length_table, get_d_table}

-- The number that the first n bits of g spell, the highest first.
pub value : ℕ → (ℕ → ℕ) → ℕ
value zero g = 0
value (suc n) g = value n g * 2 + g n

pub value_ext : (n : ℕ) (g h : ℕ → ℕ) → ((i : ℕ) → i < n → g i ≡ h i) → value n g ≡ value n h
unfolding value
value_ext zero g h e = refl
value_ext (suc n) g h e = omega (arith, value_ext n g h (λ i below. e i (omega arith)), e n (omega arith))

pub value_zero : (n : ℕ) (g : ℕ → ℕ) → ((i : ℕ) → i < n → g i ≡ 0) → value n g ≡ 0
unfolding value
value_zero zero g e = refl
value_zero (suc n) g e = omega (arith, value_zero n g (λ i below. e i (omega arith)), e n (omega arith))

pub value_none : (n : ℕ) (g : ℕ → ℕ) → value n g ≡ 0 → (i : ℕ) → i < n → g i ≡ 0
unfolding value
value_none zero g none i below = absurd (not-suc-le-zero below)
value_none (suc n) g none i below = elim (dec_lt i n) [
  | yes less ↦ value_none n g (omega arith) i less
  | no other ↦
      let same : n ≡ i = omega arith in
      let last : g n ≡ 0 = omega arith in
      rw same at last
]

pub value_append : (a b : ℕ) (g : ℕ → ℕ) → value (a + b) g ≡ value a g * 2 ^ b + value b (λ t. g (a + t))
unfolding value
value_append a zero g = rw (add-zero a, pow-zero) (omega arith)
value_append a (suc b) g =
    rw (add-suc a b, pow-suc)
    (omega (arith, ap (λ (v : ℕ). v * 2) (value_append a b g)))

pub value_lt : (n : ℕ) (g : ℕ → ℕ) → ((i : ℕ) → i < n → g i < 2) → value n g < 2 ^ n
unfolding value
value_lt zero g e = lit< tt
value_lt (suc n) g e = rw pow-suc (omega (arith, value_lt n g (λ i below. e i (omega arith)), e n (omega arith)))

-- The upper and the lower bits of a value.
pub value_high : (a b : ℕ) (g : ℕ → ℕ) → ((i : ℕ) → g i < 2) → value (a + b) g / 2 ^ b ≡ value a g
value_high a b g bit = rw value_append (high (value a g) b (value_lt b (λ t. g (a + t)) (λ i _. bit (a + i))))

pub value_low : (a b : ℕ) (g : ℕ → ℕ) → ((i : ℕ) → g i < 2) → value (a + b) g % 2 ^ b ≡ value b (λ t. g (a + t))
value_low a b g bit = rw value_append (low (value a g) b (value_lt b (λ t. g (a + t)) (λ i _. bit (a + i))))

-- Bit i of a value of n bits.
pub value_bit : (n i : ℕ) (g : ℕ → ℕ) → ((i : ℕ) → g i < 2) → i < n → value n g / 2 ^ (n - suc i) % 2 ≡ g i
unfolding value
value_bit n i g bit below =
    let whole : suc i + (n - suc i) ≡ n = omega arith in
    let upper = rw whole at (value_high (suc i) (n - suc i) g bit) in
    rw upper (omega (arith, bit i))

-- A list of bits.
abbrev pub Bits : List ℕ → Type 0
Bits m = (i : ℕ) → get_or m i 0 < 2

pub byte_value : (m : List ℕ) (j : ℕ) → byte_of m j ≡ value 8 (λ t. get_or m (8 * j + t) 0)
unfolding byte_of sum value
byte_value m j = omega arith

pub byte_lt : (m : List ℕ) (j : ℕ) → Bits m → byte_of m j < 256
byte_lt m j bit = rw byte_value (value_lt 8 (λ t. get_or m (8 * j + t) 0) (λ i _. bit (8 * j + i)))

-- Two messages with the same bits in byte j have the same byte there.
pub byte_ext : (m n : List ℕ) (j k : ℕ) → ((t : ℕ) → t < 8 → get_or m (8 * j + t) 0 ≡ get_or n (8 * k + t) 0) → byte_of m j ≡ byte_of n k
byte_ext m n j k e = byte_value m j ∙ value_ext 8 (λ t. get_or m (8 * j + t) 0) (λ t. get_or n (8 * k + t) 0) e ∙ sym (byte_value n k)

pub byte_past : (m : List ℕ) (j : ℕ) → length m ≤ 8 * j → byte_of m j ≡ 0
byte_past m j past =
    byte_value m j ∙ value_zero 8 (λ t. get_or m (8 * j + t) 0) (λ t _. get_or-eq_default m 0 {n = 8 * j + t} (omega arith))

pub length_bits_of : (bytes : List ℕ) → length (bits_of bytes) ≡ 8 * length bytes
unfolding bits_of
length_bits_of [] = refl
length_bits_of (b ∷ bytes) =
    let eight = length_table 8 (λ t. b / 2 ^ (7 - t) % 2) in
    rw (length-append, eight, length_bits_of bytes) (omega arith)

-- Bit 8 j + r of a byte string.
pub get_d_bits_of : (bytes : List ℕ) (j r : ℕ) → r < 8 → get_or (bits_of bytes) (8 * j + r) 0 ≡ get_or bytes j 0 / 2 ^ (7 - r) % 2
unfolding bits_of
get_d_bits_of [] j r below = rw (zero-div, zero-mod)
get_d_bits_of (b ∷ bytes) zero r below =
    let place : 8 * zero + r ≡ r = omega arith in
    let here = get_or-append (table 8 (λ t. b / 2 ^ (7 - t) % 2)) (bits_of bytes) 0 r (omega (arith, length_table 8 (λ t. b / 2 ^ (7 - t) % 2))) in
    rw place (here ∙ get_d_table 8 (λ t. b / 2 ^ (7 - t) % 2) r 0 below)
get_d_bits_of (b ∷ bytes) (suc j) r below =
    let first = table 8 (λ t. b / 2 ^ (7 - t) % 2) in
    let place : 8 * suc j + r ≡ length first + (8 * j + r) = omega (arith, length_table 8 (λ t. b / 2 ^ (7 - t) % 2)) in
    ap (λ (n : ℕ). get_or (first ++ bits_of bytes) n 0) place ∙ get_or-append-add first (bits_of bytes) (8 * j + r) 0 ∙ get_d_bits_of bytes j r below

-- Bit i of a byte string.
pub bit_at : (bytes : List ℕ) (i : ℕ) → get_or (bits_of bytes) i 0 ≡ get_or bytes (i / 8) 0 / 2 ^ (7 - i % 8) % 2
bit_at bytes i =
    let place : i ≡ 8 * (i / 8) + i % 8 = omega arith in
    ap (λ (k : ℕ). get_or (bits_of bytes) k 0) place ∙ get_d_bits_of bytes (i / 8) (i % 8) (omega arith)

pub bits_bits_of : (bytes : List ℕ) → Bits (bits_of bytes)
bits_bits_of bytes i =
    rw (bit_at bytes i) (mod-lt (get_or bytes (i / 8) 0 / 2 ^ (7 - i % 8)) (lit< tt))

pub get_d_take_past : (n : ℕ) (m : List ℕ) (i : ℕ) → n ≤ i → get_or (take n m) i 0 ≡ 0
get_d_take_past n m i past = get_or-eq_default (take n m) 0 {n = i} (omega (arith, length-take n m))

pub bits_take : (n : ℕ) (m : List ℕ) → Bits m → Bits (take n m)
bits_take n m bit i = elim (dec_lt i n) [
  | yes below ↦ rw (get_or-take n m i 0 below) (bit i)
  | no past ↦ rw (get_d_take_past n m i (omega arith)) (lit< tt)
]

pub bits_drop : (n : ℕ) (m : List ℕ) → Bits m → Bits (drop n m)
bits_drop n m bit i = rw get_or-drop (bit (n + i))

pub bits_append : (m n : List ℕ) → Bits m → Bits n → Bits (m ++ n)
bits_append m n left right i = elim (dec_lt i (length m)) [
  | yes below ↦ rw (get_or-append m n 0 i below) (left i)
  | no past ↦
      let place : length m + (i - length m) ≡ i = omega arith in
      let there = rw place at (get_or-append-add m n (i - length m) 0) in
      rw there (right (i - length m))
]

-- The bits of a number, the highest first, spell it.
spelled : (n b : ℕ) → value n (λ t. b / 2 ^ (n - suc t) % 2) ≡ b % 2 ^ n
unfolding value
spelled zero b = sym (mod-one b)
spelled (suc n) b =
    let inner =
    value_ext n (λ t. b / 2 ^ (suc n - suc t) % 2) (λ t. b / 2 / 2 ^ (n - suc t) % 2)
    (λ t below.
    let place : suc n - suc t ≡ 1 + (n - suc t) = omega arith in
    rw (place, ← shr-shr b 1 (n - suc t)))
    ∙ spelled n (b / 2) in
    let last : suc n - suc n ≡ 0 = omega arith in
    let split = mod-pow-add b n 1 in
    let next : n + 1 ≡ suc n = omega arith in
    rw (inner, last, ← next, split) (omega arith)

-- The bytes of a byte string's bits are its bytes.
pub byte_bits_of : (bytes : List ℕ) (j : ℕ) → get_or bytes j 0 < 256 → byte_of (bits_of bytes) j ≡ get_or bytes j 0
byte_bits_of bytes j below =
    byte_value (bits_of bytes) j
    ∙ value_ext 8 (λ t. get_or (bits_of bytes) (8 * j + t) 0) (λ t. get_or bytes j 0 / 2 ^ (8 - suc t) % 2)
    (λ t small.
    let place : 7 - t ≡ 8 - suc t = omega arith in
    rw (← place) (get_d_bits_of bytes j t small))
    ∙ spelled 8 (get_or bytes j 0)
    ∙ mod-eq_of_lt below

-- The bits of a message's bytes are its bits.
pub bits_of_bytes : (n : ℕ) (m : List ℕ) → Bits m → (i : ℕ) → i < 8 * n → get_or (bits_of (table n (byte_of m))) i 0 ≡ get_or m i 0
bits_of_bytes n m bit i below =
    let j = i / 8 in
    let r = i % 8 in
    let small : r < 8 = omega arith in
    let place : 8 * j + r ≡ i = omega arith in
    let top : 7 - r ≡ 8 - suc r = omega arith in
    let read : get_or (bits_of (table n (byte_of m))) (8 * j + r) 0 ≡ byte_of m j / 2 ^ (7 - r) % 2 =
    get_d_bits_of (table n (byte_of m)) j r small
    ∙ ap (λ (b : ℕ). b / 2 ^ (7 - r) % 2) (get_d_table n (byte_of m) j 0 (omega arith)) in
    let bits : byte_of m j / 2 ^ (7 - r) % 2 ≡ get_or m (8 * j + r) 0 =
    rw (top, byte_value) (value_bit 8 r (λ t. get_or m (8 * j + t) 0) (λ t. bit (8 * j + t)) small) in
    rw place at (read ∙ bits)

-- Bits put behind bits. Byte j of the first list stays where it has it whole.
pub byte_append : (t m : List ℕ) (j : ℕ) → 8 * j + 8 ≤ length t → byte_of (t ++ m) j ≡ byte_of t j
byte_append t m j within = byte_ext (t ++ m) t j j (λ r small. get_or-append t m 0 (8 * j + r) (omega arith))

-- Where the first list ends o bits into byte q, each byte from there on has the last o bits of one byte of the second list
-- and the first e bits of the next.
module _ (t m : List ℕ) (q o e : ℕ) (ends : length t ≡ 8 * q + o) (eight : o + e ≡ 8) (bit : Bits m) where
  whole : (l : List ℕ) (j : ℕ) → byte_of l j ≡ value (o + e) (λ r. get_or l (8 * j + r) 0)
  whole l j = rw eight (byte_value l j)

  turned : (j : ℕ) → byte_of m j ≡ value (e + o) (λ r. get_or m (8 * j + r) 0)
  turned j =
      let other : e + o ≡ 8 = omega arith in
      rw other (byte_value m j)

  upper : (j : ℕ) → byte_of m j / 2 ^ o ≡ value e (λ r. get_or m (8 * j + r) 0)
  upper j = rw turned (value_high e o (λ r. get_or m (8 * j + r) 0) (λ r. bit (8 * j + r)))

  lower : (j : ℕ) → byte_of m j % 2 ^ o ≡ value o (λ r. get_or m (8 * j + (e + r)) 0)
  lower j = rw turned (value_low e o (λ r. get_or m (8 * j + r) 0) (λ r. bit (8 * j + r)))

  -- Bit 8 q + o + n of the joined list is bit n of the second.
  behind : (n : ℕ) → get_or (t ++ m) (8 * q + (o + n)) 0 ≡ get_or m n 0
  behind n =
      let place : 8 * q + (o + n) ≡ length t + n = omega arith in
      rw (place, get_or-append-add)

  pub byte_seam : byte_of (t ++ m) q ≡ byte_of t q + byte_of m 0 / 2 ^ o
  byte_seam =
      let left : value o (λ r. get_or (t ++ m) (8 * q + r) 0) ≡ value o (λ r. get_or t (8 * q + r) 0) =
      value_ext o (λ r. get_or (t ++ m) (8 * q + r) 0) (λ r. get_or t (8 * q + r) 0)
      (λ r below. get_or-append t m 0 (8 * q + r) (omega arith)) in
      let right : value e (λ r. get_or (t ++ m) (8 * q + (o + r)) 0) ≡ value e (λ r. get_or m (8 * 0 + r) 0) =
      value_ext e (λ r. get_or (t ++ m) (8 * q + (o + r)) 0) (λ r. get_or m (8 * 0 + r) 0)
      (λ r below.
      let place : 8 * 0 + r ≡ r = omega arith in
      rw place (behind r)) in
      let none : value e (λ r. get_or t (8 * q + (o + r)) 0) ≡ 0 =
      value_zero e (λ r. get_or t (8 * q + (o + r)) 0) (λ r below. get_or-eq_default t 0 {n = 8 * q + (o + r)} (omega arith)) in
      let joined = whole (t ++ m) q ∙ value_append o e (λ r. get_or (t ++ m) (8 * q + r) 0) in
      let alone = whole t q ∙ value_append o e (λ r. get_or t (8 * q + r) 0) in
      omega (arith, joined, alone, ap (λ (v : ℕ). v * 2 ^ e) left, right, none, upper 0)

  pub byte_behind : (i : ℕ) → byte_of (t ++ m) (q + suc i) ≡ byte_of m i % 2 ^ o * 2 ^ e + byte_of m (suc i) / 2 ^ o
  byte_behind i =
      let left : value o (λ r. get_or (t ++ m) (8 * (q + suc i) + r) 0) ≡ value o (λ r. get_or m (8 * i + (e + r)) 0) =
      value_ext o (λ r. get_or (t ++ m) (8 * (q + suc i) + r) 0) (λ r. get_or m (8 * i + (e + r)) 0)
      (λ r below.
      let place : 8 * (q + suc i) + r ≡ 8 * q + (o + (8 * i + (e + r))) = omega arith in
      rw place (behind (8 * i + (e + r)))) in
      let right : value e (λ r. get_or (t ++ m) (8 * (q + suc i) + (o + r)) 0) ≡ value e (λ r. get_or m (8 * suc i + r) 0) =
      value_ext e (λ r. get_or (t ++ m) (8 * (q + suc i) + (o + r)) 0) (λ r. get_or m (8 * suc i + r) 0)
      (λ r below.
      let place : 8 * (q + suc i) + (o + r) ≡ 8 * q + (o + (8 * suc i + r)) = omega arith in
      rw place (behind (8 * suc i + r))) in
      rw (whole (t ++ m) (q + suc i), value_append o e (λ r. get_or (t ++ m) (8 * (q + suc i) + r) 0), left, right, upper (suc i), lower i)
