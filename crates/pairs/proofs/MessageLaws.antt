-- Laws of messages: their bits and length come back from their blocks and length block.
use mathlib.Core.List.{List}
use mathlib.Core.Path.{◌≡◌, sym, ap, ◌∙◌}
use Prim.Native.Nat.{ℕ, suc, ◌+◌, ◌*◌, ◌-◌, ◌/◌, ◌%◌, ◌^◌, ◌<◌}
use native.Mathlib.Nat.{mod-eq_of_lt}
use native.Mathlib.Omega.{arith}
use lib.ListN.{length, get_or}
use lib.Seq.{ext_get_or}
use Rattle.simd.specs.Basic.{Family, small, large, block_bytes}
use Rattle.simd.specs.Message.{byte_of, block, message_blocks, length_block}
use Rattle.laws.proofs.Bits.{Bits, byte_value, value_bit}
use Rattle.laws.proofs.LittleEndian.{digits_sum}
use Rattle.laws.proofs.Sum.{sum_ext}
use Rattle.laws.proofs.Table.{get_d_table}

-- A message that breaks no rule: its elements are bits, and its length fits 64 bits.
pub record IsMessage (m : List ℕ) : Type 0 where
  pub bits : Bits m
  pub short : length m < 2 ^ 64

-- Bit i of a message, from its byte.
bit_of_byte : (m : List ℕ) → Bits m → (i : ℕ) → get_or m i 0 ≡ byte_of m (i / 8) / 2 ^ (7 - i % 8) % 2
bit_of_byte m bits i =
    let whole : 8 * (i / 8) + i % 8 ≡ i = omega arith in
    let top : 7 - i % 8 ≡ 8 - suc (i % 8) = omega arith in
    let bit = value_bit 8 (i % 8) (λ t. get_or m (8 * (i / 8) + t) 0) (λ t. bits (8 * (i / 8) + t)) (omega arith) in
    rw (byte_value m (i / 8), top) (ap (λ (j : ℕ). get_or m j 0) (sym whole) ∙ sym bit)

-- Byte j of a message, from its block.
byte_of_block : (f : Family) (m : List ℕ) (j : ℕ) → byte_of m j ≡ get_or (block f m (j / block_bytes f)) (j % block_bytes f) 0
unfolding block
byte_of_block small m j =
    sym (get_d_table 64 (λ t. byte_of m (64 * (j / 64) + t)) (j % 64) 0 (omega arith) ∙ ap (byte_of m) (omega arith))
byte_of_block large m j =
    sym (get_d_table 128 (λ t. byte_of m (128 * (j / 128) + t)) (j % 128) 0 (omega arith) ∙ ap (byte_of m) (omega arith))

-- The block of a byte is one of the message's.
block_of_byte : (f : Family) (n j : ℕ) → 8 * j < n → j / block_bytes f < message_blocks f n
unfolding message_blocks
block_of_byte small n j h = omega arith
block_of_byte large n j h = omega arith

-- Two messages of one length with the same bytes, or the same blocks, are the same.
pub bytes_ext : (a b : List ℕ) → Bits a → Bits b → length a ≡ length b → ((j : ℕ) → 8 * j < length a → byte_of a j ≡ byte_of b j) → a ≡ b
bytes_ext a b wa wb e same =
    ext_get_or 0 a b e
    (λ i low. bit_of_byte a wa i ∙ ap (λ (y : ℕ). y / 2 ^ (7 - i % 8) % 2) (same (i / 8) (omega arith)) ∙ sym (bit_of_byte b wb i))

pub message_ext : (f : Family) (a b : List ℕ) → Bits a → Bits b → length a ≡ length b
    → ((k : ℕ) → k < message_blocks f (length a) → block f a k ≡ block f b k) → a ≡ b
message_ext f a b wa wb e same =
    bytes_ext a b wa wb e
    (λ j low.
    let blocks = same (j / block_bytes f) (block_of_byte f (length a) j low) in
    byte_of_block f a j ∙ ap (λ (l : List ℕ). get_or l (j % block_bytes f) 0) blocks ∙ sym (byte_of_block f b j))

-- The length block tells the length, by its first eight bytes.
length_byte : (f : Family) (n j : ℕ) → j < 8 → get_or (length_block f n) j 0 ≡ n / 256 ^ j % 256
unfolding length_block
length_byte small n j h = get_d_table 64 (λ j. n / 256 ^ j % 256) j 0 (omega arith)
length_byte large n j h = get_d_table 128 (λ j. n / 256 ^ j % 256) j 0 (omega arith)

pub length_ext : (f : Family) (n k : ℕ) → n < 2 ^ 64 → k < 2 ^ 64 → length_block f n ≡ length_block f k → n ≡ k
length_ext f n k hn hk e =
    let digit : (j : ℕ) → j < 8 → n / 256 ^ j % 256 ≡ k / 256 ^ j % 256 =
    λ j h. sym (length_byte f n j h) ∙ ap (λ (l : List ℕ). get_or l j 0) e ∙ length_byte f k j h in
    let sums =
    sum_ext 8 (λ j. n / 256 ^ j % 256 * 256 ^ j) (λ j. k / 256 ^ j % 256 * 256 ^ j) (λ j h. ap (λ (d : ℕ). d * 256 ^ j) (digit j h)) in
    sym (digits_sum 8 n ∙ mod-eq_of_lt hn) ∙ sums ∙ digits_sum 8 k ∙ mod-eq_of_lt hk
