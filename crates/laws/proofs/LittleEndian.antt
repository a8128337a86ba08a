-- Laws of numbers in bytes, low byte first: digits, and words there and back.
use mathlib.Core.List.{List, ◌++◌}
use mathlib.Core.Path.{◌≡◌, refl, sym, ap, ◌∙◌}
use Prim.Native.Nat.{ℕ, zero, suc, ◌+◌, ◌*◌, ◌/◌, ◌%◌, ◌^◌, ◌<◌, ◌≤◌}
use native.Mathlib.Nat.{pow-zero, pow-suc, pow-succ', div-one, mod-one, mod-eq_of_lt, div-div-eq-div-mul, not-suc-le-zero, mul-le-mul_right, le_of_suc-le-suc}
use native.Mathlib.Omega.{arith}
use native.Mathlib.Decide.{dec_lt}
use lib.Arith.{mod-mul}
use lib.Dec.{lit<}
use lib.ListN.{length, get_or, take, length-take, get_or-append, get_or-eq_default}
use lib.Seq.{get_or-take, ext_get_or}
use Rattle.simd.specs.Basic.{sum, word_at, words_of, bytes_of}
use Rattle.laws.proofs.Table.{length_table, get_d_table, table_of}
use Rattle.laws.proofs.Sum.{sum_ext}

pow_positive : (n : ℕ) → 0 < 256 ^ n
pow_positive zero = rw pow-zero (lit< tt)
pow_positive (suc n) = rw pow-suc (omega (arith, pow_positive n))

-- The digits of a number are the number.
pub digits_sum : (n x : ℕ) → sum n (λ t. x / 256 ^ t % 256 * 256 ^ t) ≡ x % 256 ^ n
unfolding sum
digits_sum zero x = sym (mod-one x)
digits_sum (suc n) x =
    let whole : 256 ^ suc n ≡ 256 * 256 ^ n = pow-succ' 256 n in
    rw (whole, mod-mul x {m = 256} {c = 256 ^ n} (lit< tt) (pow_positive n)) (omega (arith, digits_sum n x))

pub sum_lt : (n : ℕ) (g : ℕ → ℕ) → ((i : ℕ) → g i < 256) → sum n (λ t. g t * 256 ^ t) < 256 ^ n
unfolding sum
sum_lt zero g small = lit< tt
sum_lt (suc n) g small =
    let last : g n * 256 ^ n ≤ 255 * 256 ^ n = mul-le-mul_right (256 ^ n) (le_of_suc-le-suc (small n)) in
    rw pow-suc (omega (arith, sum_lt n g small, last))

pub word_lt : (bytes : List ℕ) (i : ℕ) → ((i : ℕ) → get_or bytes i 0 < 256) → word_at bytes i < 2 ^ 32
unfolding word_at
word_lt bytes i fits = sum_lt 4 (λ t. get_or bytes (4 * i + t) 0) (λ t. fits (4 * i + t))

-- A number's lowest digit, and the number of the others.
first_digit : (n : ℕ) (g : ℕ → ℕ) → sum (suc n) (λ t. g t * 256 ^ t) ≡ g 0 + 256 * sum n (λ t. g (suc t) * 256 ^ t)
unfolding sum
first_digit zero g = rw pow-zero (omega arith)
first_digit (suc n) g =
    let last : g (suc n) * 256 ^ suc n ≡ 256 * (g (suc n) * 256 ^ n) = rw pow-suc (omega arith) in
    omega (arith, first_digit n g, last)

-- The number of digits has these digits.
pub sum_digits : (n : ℕ) (g : ℕ → ℕ) → ((i : ℕ) → i < n → g i < 256) → (t : ℕ) → t < n → sum n (λ t. g t * 256 ^ t) / 256 ^ t % 256 ≡ g t
sum_digits zero g small t below = absurd (not-suc-le-zero below)
sum_digits (suc n) g small zero below =
    rw (pow-zero, div-one) (omega (arith, first_digit n g, small 0 (omega arith)))
sum_digits (suc n) g small (suc t) below =
    let rest : sum (suc n) (λ t. g t * 256 ^ t) / 256 ≡ sum n (λ t. g (suc t) * 256 ^ t) = omega (arith, first_digit n g, small 0 (omega arith)) in
    rw (pow-succ' 256 t, ← div-div-eq-div-mul (sum (suc n) (λ t. g t * 256 ^ t)) 256 (256 ^ t), rest)
    (sum_digits n (λ t. g (suc t)) (λ i within. small (suc i) (omega arith)) t (omega arith))

pub length_bytes_of : (words : List ℕ) → length (bytes_of words) ≡ 4 * length words
unfolding bytes_of
length_bytes_of words = length_table (4 * length words) _

pub length_words_of : (n : ℕ) (bytes : List ℕ) → length (words_of n bytes) ≡ n
unfolding words_of
length_words_of n bytes = length_table n (word_at bytes)

pub get_d_bytes_of : (words : List ℕ) (j : ℕ) → j < 4 * length words → get_or (bytes_of words) j 0 ≡ get_or words (j / 4) 0 / 256 ^ (j % 4) % 256
unfolding bytes_of
get_d_bytes_of words j below = get_d_table (4 * length words) (λ j. get_or words (j / 4) 0 / 256 ^ (j % 4) % 256) j 0 below

-- Words written and read back, whatever stands behind them.
pub words_bytes : (words rest : List ℕ) → ((i : ℕ) → get_or words i 0 < 2 ^ 32) → words_of (length words) (bytes_of words ++ rest) ≡ words
unfolding words_of word_at
words_bytes words rest fits =
    sym (table_of 0 (length words) (word_at (bytes_of words ++ rest)) words refl
    (λ i below. sym (
    sum_ext 4 (λ t. get_or (bytes_of words ++ rest) (4 * i + t) 0 * 256 ^ t) (λ t. get_or words i 0 / 256 ^ t % 256 * 256 ^ t)
    (λ t small.
    let at : 4 * i + t < 4 * length words = omega arith in
    let word : (4 * i + t) / 4 ≡ i = omega arith in
    let place : (4 * i + t) % 4 ≡ t = omega arith in
    let byte = get_or-append (bytes_of words) rest 0 (4 * i + t) (omega (arith, length_bytes_of words)) ∙ get_d_bytes_of words (4 * i + t) at in
    rw (byte, word, place))
    ∙ digits_sum 4 (get_or words i 0) ∙ mod-eq_of_lt (fits i))))

pub get_d_words_of : (n : ℕ) (bytes : List ℕ) (i : ℕ) → i < n → get_or (words_of n bytes) i 0 ≡ word_at bytes i
unfolding words_of
get_d_words_of n bytes i below = get_d_table n (word_at bytes) i 0 below

pub words_of_fit : (n : ℕ) (bytes : List ℕ) (i : ℕ) → ((i : ℕ) → get_or bytes i 0 < 256) → get_or (words_of n bytes) i 0 < 2 ^ 32
words_of_fit n bytes i fits = elim (dec_lt i n) [
  | yes below ↦ rw (get_d_words_of n bytes i below) (word_lt bytes i fits)
  | no past ↦ rw (get_or-eq_default (words_of n bytes) 0 {n = i} (omega (arith, length_words_of n bytes))) (lit< tt)
]

-- Byte t of a word that was read.
word_byte : (bytes : List ℕ) → ((i : ℕ) → get_or bytes i 0 < 256) → (i t : ℕ) → t < 4 → word_at bytes i / 256 ^ t % 256 ≡ get_or bytes (4 * i + t) 0
unfolding word_at
word_byte bytes fits i t below = sum_digits 4 (λ t. get_or bytes (4 * i + t) 0) (λ t _. fits (4 * i + t)) t below

-- Bytes read as words and written again.
pub bytes_words : (n : ℕ) (bytes : List ℕ) → ((i : ℕ) → get_or bytes i 0 < 256) → 4 * n ≤ length bytes → bytes_of (words_of n bytes) ≡ take (4 * n) bytes
bytes_words n bytes fits long =
    let size = length_words_of n bytes in
    ext_get_or 0 (bytes_of (words_of n bytes)) (take (4 * n) bytes)
    (omega (arith, length_bytes_of (words_of n bytes), length-take (4 * n) bytes))
    (λ j below.
    let within : j < 4 * n = omega (arith, length_bytes_of (words_of n bytes)) in
    let place : 4 * (j / 4) + j % 4 ≡ j = omega arith in
    get_d_bytes_of (words_of n bytes) j (omega arith)
    ∙ rw (get_d_words_of n bytes (j / 4) (omega arith)) (word_byte bytes fits (j / 4) (j % 4) (omega arith))
    ∙ ap (λ (i : ℕ). get_or bytes i 0) place
    ∙ sym (get_or-take (4 * n) bytes j 0 within))
