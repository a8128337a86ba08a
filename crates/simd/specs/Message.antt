-- Messages, their blocks and the length block (sections 1.2.1, 1.2.4 and 1.2.6).
use Rattle.std.specs.Prelude.{List, [], ◌∷◌, ◌++◌, ℕ, zero, suc, ◌+◌, ◌*◌, ◌-◌, ◌/◌, ◌%◌, ◌^◌, get_or, take}
use Rattle.simd.specs.Basic.{Family, block_bytes, block_bits, table, sum}

-- The bits of a string of bytes: of each byte the highest bit comes first.
unfoldable pub bits_of : List ℕ → List ℕ
bits_of [] = []
bits_of (b ∷ bytes) = table 8 (λ t. b / 2 ^ (7 - t) % 2) ++ bits_of bytes

-- The message that a byte string and a count of bits stand for. A message is its list of bits.
unfoldable pub message : List ℕ → ℕ → List ℕ
message bytes count = take count (bits_of bytes)

-- Byte j of a message, with zeros for the bits past its end.
unfoldable pub byte_of : List ℕ → ℕ → ℕ
byte_of m j = sum 8 (λ t. get_or m (8 * j + t) 0 * 2 ^ (7 - t))

-- Message block k: 16 R bytes. The last one is filled with zeros.
unfoldable pub block : Family → List ℕ → ℕ → List ℕ
block f m k = table (block_bytes f) (λ j. byte_of m (block_bytes f * k + j))

-- The message blocks of n bits: n / block size, rounded up.
unfoldable pub message_blocks : Family → ℕ → ℕ
message_blocks f n = (n + (block_bits f - 1)) / block_bits f

-- The length block of n bits: n, low byte first, zeros after.
unfoldable pub length_block : Family → ℕ → List ℕ
length_block f n = table (block_bytes f) (λ j. n / 256 ^ j % 256)
