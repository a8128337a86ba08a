-- Laws of words and numbers written and read, low byte first.
use mathlib.Core.List.{List, ◌++◌}
use mathlib.Core.Path.{◌≡◌, sym, ap, ◌∙◌, subst}
use Prim.Native.Nat.{ℕ, zero, suc, ◌+◌, ◌*◌, ◌-◌, ◌/◌, ◌%◌, ◌^◌, ◌<◌, ◌≤◌}
use native.Mathlib.Nat.{mod-eq_of_lt}
use native.Mathlib.Omega.{arith}
use lib.ListN.{length, get_or, take, drop, length-take, get_or-append}
use lib.Seq.{get_or-take, get_or-drop}
use borrow.Rule.Slice.PartMut.{put_mid}
use Rattle.std.specs.Int.{bytes_low_first, byte_worth, sum_through}
use Rattle.simd.specs.Basic.{bytes_of, table, sum}
use Rattle.laws.proofs.Table.{length_table, get_d_table, table_of, table_ext}
use Rattle.laws.proofs.Sum.{sum_ext}
use Rattle.laws.proofs.LittleEndian.{digits_sum, sum_digits, get_d_bytes_of, length_bytes_of}
use Rattle.bits.specs.Zero.{padded}
use Rattle.bits.proofs.Filling.{Filled}
use Rattle.bits.proofs.Parts.{filled_part}
use Rattle.bits.proofs.Bytes.{low_bytes}
use Rattle.bits.proofs.Zeros.{get_d_padded, length_padded}
use Rattle.little_endian.specs.Numbers.{little_endian, number}

-- Bytes of words.
pub word_byte : List ℕ → ℕ → ℕ
word_byte words j = get_or words (j / 4) 0 / 256 ^ (j % 4) % 256

word_part : (words : List ℕ) (i k : ℕ) → k < 4 → get_or words i 0 / 256 ^ k % 256 ≡ word_byte words (4 * i + k)
unfolding word_byte
word_part words i k less =
    let word : i ≡ (4 * i + k) / 4 = omega arith in
    let place : k ≡ (4 * i + k) % 4 = omega arith in
    λ t. get_or words (word t) 0 / 256 ^ place t % 256

-- One more word written.
pub word_more : (n i : ℕ) (words out bytes : List ℕ) → Filled n (4 * i) (word_byte words) out → 4 * i + 4 ≤ n → bytes ≡ bytes_low_first 0 4 (get_or words i 0)
    → Filled n (4 * (i + 1)) (word_byte words) (put_mid (4 * i) (4 * i + 4 - 4 * i) out bytes)
word_more n i words out bytes f within written =
    let digit = λ (t : ℕ). get_or words i 0 / 256 ^ t % 256 in
    let four = written ∙ low_bytes 4 (get_or words i 0) in
    let next : 4 * i + 4 ≡ 4 * (i + 1) = omega arith in
    subst (λ e. Filled n e (word_byte words) (put_mid (4 * i) (4 * i + 4 - 4 * i) out bytes)) next
    (filled_part n (4 * i) 4 (word_byte words) out bytes f within (ap length four ∙ length_table 4 digit)
    (λ t below. ap (λ l. get_or l t 0) four ∙ get_d_table 4 digit t 0 below ∙ word_part words i t below))

pub take_bytes : (n : ℕ) (words : List ℕ) → n ≤ 4 * length words → take n (bytes_of words) ≡ table n (word_byte words)
unfolding word_byte
take_bytes n words within =
    table_of 0 n (word_byte words) (take n (bytes_of words)) (omega (arith, length-take n (bytes_of words), length_bytes_of words))
    (λ j below. get_or-take n (bytes_of words) j 0 below ∙ get_d_bytes_of words j (omega arith))

-- The first bytes of a state are those of its words.
pub state_bytes : (n : ℕ) (words : List ℕ) → n ≤ 4 * length words → length words ≤ 32 → take n (bytes_of (padded 32 words)) ≡ take n (bytes_of words)
unfolding word_byte
state_bytes n words within short =
    take_bytes n (padded 32 words) (omega (arith, length_padded 32 words))
    ∙ table_ext n (word_byte (padded 32 words)) (word_byte words)
    (λ j _. ap (λ (x : ℕ). x / 256 ^ (j % 4) % 256) (get_d_padded 32 words (j / 4) short))
    ∙ sym (take_bytes n words within)

-- Numbers written and read.
pub length_little_endian : (n x : ℕ) → length (little_endian n x) ≡ n
unfolding little_endian
length_little_endian n x = length_table n (λ t. x / 256 ^ t % 256)

pub number_written : (n x : ℕ) (rest : List ℕ) → x < 256 ^ n → number n (little_endian n x ++ rest) ≡ x
unfolding number little_endian
number_written n x rest fits =
    sum_ext n (λ t. get_or (little_endian n x ++ rest) t 0 * 256 ^ t) (λ t. x / 256 ^ t % 256 * 256 ^ t)
    (λ t below.
    ap (λ (b : ℕ). b * 256 ^ t)
    (get_or-append (little_endian n x) rest 0 t (omega (arith, length_table n (λ t. x / 256 ^ t % 256)))
    ∙ get_d_table n (λ t. x / 256 ^ t % 256) t 0 below))
    ∙ digits_sum n x ∙ mod-eq_of_lt fits

pub number_read : (n : ℕ) (bytes : List ℕ) → ((i : ℕ) → get_or bytes i 0 < 256) → n ≤ length bytes → little_endian n (number n bytes) ≡ take n bytes
unfolding number little_endian
number_read n bytes fits long =
    sym (table_of 0 n (λ t. number n bytes / 256 ^ t % 256) (take n bytes) (omega (arith, length-take n bytes))
    (λ t below. get_or-take n bytes t 0 below ∙ sym (sum_digits n (λ t. get_or bytes t 0) (λ i _. fits i) t below)))

-- The first bytes of a string, each times what it is worth.
worth : (k : ℕ) (f : ℕ → ℕ) → sum_through (λ i. byte_worth i (f i)) k ≡ sum (suc k) (λ t. f t * 256 ^ t)
unfolding sum
worth zero f = omega arith
worth (suc k) f = ap (λ s. s + f (suc k) * 256 ^ suc k) (worth k f)

pub number_of : (k : ℕ) (xs ys : List ℕ) → ys ≡ take (suc k) xs → sum_through (λ i. byte_worth i (get_or ys i 0)) k ≡ number (suc k) xs
unfolding number
number_of k xs ys first =
    worth k (λ i. get_or ys i 0)
    ∙ sum_ext (suc k) (λ t. get_or ys t 0 * 256 ^ t) (λ t. get_or xs t 0 * 256 ^ t)
    (λ t below. ap (λ b. b * 256 ^ t) (ap (λ l. get_or l t 0) first ∙ get_or-take (suc k) xs t 0 below))

-- Eight bytes are two words.
pub read_eight : (bytes : List ℕ) (at a b : ℕ) → a ≡ number 4 (drop at bytes) → b ≡ number 4 (drop (at + 4) bytes)
    → a + 4294967296 * b ≡ number 8 (drop at bytes)
unfolding number sum
read_eight bytes at a b low high =
    let next : (t : ℕ) → get_or (drop (at + 4) bytes) t 0 ≡ get_or (drop at bytes) (4 + t) 0 =
    λ t. get_or-drop (at + 4) bytes t 0 ∙ ap (λ (n : ℕ). get_or bytes n 0) (omega arith) ∙ sym (get_or-drop at bytes (4 + t) 0) in
    omega (arith, next 0, next 1, next 2, next 3)
