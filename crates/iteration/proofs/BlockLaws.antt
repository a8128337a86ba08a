-- Laws of the blocks that the code makes and compresses.
use mathlib.Core.Bool.{false, true}
use mathlib.Core.List.{List}
use mathlib.Core.Path.{◌≡◌, sym, ap, ◌∙◌}
use Prim.Native.Nat.{ℕ, ◌+◌, ◌*◌, ◌-◌, ◌/◌, ◌%◌, ◌^◌, ◌<◌, ◌≤◌, min}
use native.Mathlib.Numerals.{add-one}
use native.Mathlib.Omega.{arith}
use native.Mathlib.Decide.{dec_lt}
use lib.ListN.{length, get_or, take, drop, length-take, take-append-drop}
use lib.Seq.{get_or-take, get_or-drop}
use Rattle.simd.specs.Basic.{Family, small, large, state_words, block_bytes, block_bits, table}
use Rattle.simd.specs.Message.{bits_of, byte_of, message, block, message_blocks, length_block}
use Rattle.simd.specs.Hash.{chain}
use Rattle.simd.specs.Steps.{compression}
use Rattle.laws.proofs.Bits.{byte_ext, byte_bits_of, get_d_bits_of, get_d_take_past, length_bits_of}
use Rattle.laws.proofs.Chain.{chain_append}
use Rattle.laws.proofs.Table.{table_ext}
use Rattle.bits.specs.Zero.{all_zero}
use Rattle.bits.proofs.Zeros.{zero_at, all_zero_lem}
use Rattle.compression.proofs.Laws.{part as part-table}

-- Bit t of byte j behind the full blocks of n bits: before the last of these bits, or past it.
before_end : (f : Family) (n j t : ℕ) → 8 * j + t < n % block_bits f → 8 * (block_bytes f * (n / block_bits f) + j) + t < n
before_end small n j t before = omega arith
before_end large n j t before = omega arith

past_end : (f : Family) (n j t : ℕ) → n % block_bits f ≤ 8 * j + t → n ≤ 8 * (block_bytes f * (n / block_bits f) + j) + t
past_end small n j t past = omega arith
past_end large n j t past = omega arith

-- A block of a byte string: its bytes, with zeros past the end.
block_of_bytes : (f : Family) (bytes : List ℕ) (k : ℕ) {b : List ℕ} → ((j : ℕ) → get_or bytes j 0 < 256)
    → b ≡ table (block_bytes f) (λ j. get_or bytes (block_bytes f * k + j) 0) → b ≡ block f (bits_of bytes) k
unfolding block
block_of_bytes f bytes k are-bytes filled =
    filled ∙ sym (table_ext (block_bytes f) _ _ (λ j _. byte_bits_of bytes (block_bytes f * k + j) (are-bytes (block_bytes f * k + j))))

-- A block that has all of its bytes is a part of the byte string.
pub block_whole : (f : Family) (bytes : List ℕ) (k : ℕ) {b : List ℕ} → ((j : ℕ) → get_or bytes j 0 < 256)
    → block_bytes f * k + block_bytes f ≤ length bytes → b ≡ take (block_bytes f) (drop (block_bytes f * k) bytes) → b ≡ block f (bits_of bytes) k
block_whole f bytes k are-bytes fits read =
    block_of_bytes f bytes k are-bytes (read ∙ part-table (block_bytes f) (block_bytes f * k) bytes fits)

-- The block behind the full ones of a message: the bits that are left, with zeros behind.
module _ (f : Family) (bytes : List ℕ) (n : ℕ) where
  abbrev at : ℕ
  at = block_bytes f * (n / block_bits f)

  left_bit : (j t : ℕ) → t < 8
      → get_or (take (n % block_bits f) (bits_of (drop at bytes))) (8 * j + t) 0 ≡ get_or (take n (bits_of bytes)) (8 * (at + j) + t) 0
  left_bit j t eight = elim (dec_lt (8 * j + t) (n % block_bits f)) [
    | yes before ↦
        get_or-take (n % block_bits f) (bits_of (drop at bytes)) (8 * j + t) 0 before
        ∙ get_d_bits_of (drop at bytes) j t eight
        ∙ ap (λ (x : ℕ). x / 2 ^ (7 - t) % 2) (get_or-drop at bytes j 0)
        ∙ sym (get_d_bits_of bytes (at + j) t eight)
        ∙ sym (get_or-take n (bits_of bytes) (8 * (at + j) + t) 0 (before_end f n j t before))
    | no past ↦
        get_d_take_past (n % block_bits f) (bits_of (drop at bytes)) (8 * j + t) (omega arith)
        ∙ sym (get_d_take_past n (bits_of bytes) (8 * (at + j) + t) (past_end f n j t (omega arith)))
  ]

  pub block_last : {b : List ℕ} → b ≡ table (block_bytes f) (byte_of (message (drop at bytes) (n % block_bits f)))
      → b ≡ block f (message bytes n) (n / block_bits f)
  unfolding block message
  block_last filled = filled ∙ table_ext (block_bytes f) _ _ (λ j _. byte_ext _ _ j (at + j) (left_bit j))

-- What is compressed is the block.
pub compressed_block : (f : Family) (s m : List ℕ) (k : ℕ) {t b : List ℕ} → b ≡ block f m k → t ≡ compression f false s b
    → t ≡ compression f false s (block f m k)
compressed_block f s m k new step = step ∙ ap (compression f false s) new

pub compressed_length : (f : Family) (s : List ℕ) (bits : ℕ) {t b : List ℕ} → b ≡ length_block f bits → t ≡ compression f true s b
    → t ≡ compression f true s (length_block f bits)
compressed_length f s bits new step = step ∙ ap (compression f true s) new

-- One block more of a chain.
pub one_more : (f : Family) (from m : List ℕ) (k : ℕ) {s t : List ℕ} → t ≡ compression f false s (block f m k) → s ≡ chain f from m k
    → t ≡ chain f from m (k + 1)
unfolding chain
one_more f from m k step before = step ∙ rw (before, add-one k)

-- The length block compressed, from the state after the message blocks.
pub finished : (f : Family) (bits : ℕ) {s t u : List ℕ} → u ≡ compression f true t (length_block f bits) → t ≡ s
    → u ≡ compression f true s (length_block f bits)
finished f bits step before = step ∙ ap (λ (t : List ℕ). compression f true t (length_block f bits)) before

-- The full blocks of a message are those of its bytes, whatever stands past its last bit.
full_within : (f : Family) (n : ℕ) → block_bits f * (n / block_bits f) ≤ n
full_within small n = omega arith
full_within large n = omega arith

pub full_blocks_lem : (f : Family) (from bytes : List ℕ) (n : ℕ) → n ≤ 8 * length bytes
    → chain f from (bits_of bytes) (n / block_bits f) ≡ chain f from (message bytes n) (n / block_bits f)
unfolding message
full_blocks_lem f from bytes n within =
    ap (λ (m : List ℕ). chain f from m (n / block_bits f)) (sym (take-append-drop n (bits_of bytes)))
    ∙ chain_append f from (take n (bits_of bytes)) (drop n (bits_of bytes)) (n / block_bits f)
    (omega (arith, full_within f n, length-take n (bits_of bytes), length_bits_of bytes))

-- The message blocks are the full ones, and one more where bits are left.
count_even : (f : Family) (n : ℕ) → n % block_bits f ≡ 0 → n / block_bits f ≡ message_blocks f n
unfolding message_blocks
count_even small n none = omega arith
count_even large n none = omega arith

count_odd : (f : Family) (n : ℕ) → (n % block_bits f ≡ 0 → ⊥) → n / block_bits f + 1 ≡ message_blocks f n
unfolding message_blocks
count_odd small n some = omega arith
count_odd large n some = omega arith

pub all_even : (f : Family) (from bytes : List ℕ) (n : ℕ) {s : List ℕ} → n ≤ 8 * length bytes → n % block_bits f ≡ 0
    → s ≡ chain f from (bits_of bytes) (n / block_bits f) → s ≡ chain f from (message bytes n) (message_blocks f n)
all_even f from bytes n within none full =
    full ∙ full_blocks_lem f from bytes n within ∙ ap (chain f from (message bytes n)) (count_even f n none)

pub all_odd : (f : Family) (from bytes : List ℕ) (n : ℕ) {s t : List ℕ} → n ≤ 8 * length bytes → (n % block_bits f ≡ 0 → ⊥)
    → s ≡ chain f from (bits_of bytes) (n / block_bits f) → t ≡ compression f false s (block f (message bytes n) (n / block_bits f))
    → t ≡ chain f from (message bytes n) (message_blocks f n)
all_odd f from bytes n within some full step =
    one_more f from (message bytes n) (n / block_bits f) step (full ∙ full_blocks_lem f from bytes n within)
    ∙ ap (chain f from (message bytes n)) (count_odd f n some)

-- The code counts by the words of a state.
module _ (f : Family) (w : ℕ) (has : state_words f ≡ w) where
  pub bytes_are : 4 * w ≡ block_bytes f
  bytes_are = omega (arith, has)

  pub bits_are : 32 * w ≡ block_bits f
  bits_are = omega (arith, has)

  pub last_fits : (n : ℕ) → 8 * (4 * w * (n / (32 * w))) + n % (32 * w) ≤ n
  last_fits n = rw (bytes_are, bits_are) (within f n)
    where
      within : (f : Family) (n : ℕ) → 8 * (block_bytes f * (n / block_bits f)) + n % block_bits f ≤ n
      within small n = omega arith
      within large n = omega arith

  -- A block is made in the front of room for the larger one.
  front_bytes : (room : List ℕ) → length room ≡ 128 → length (take (4 * w) room) ≡ block_bytes f
  front_bytes room size = simp length-take (within f has)
    where
      within : (f : Family) → state_words f ≡ w → min (4 * w) (length room) ≡ block_bytes f
      within small has = omega (arith, has, size)
      within large has = omega (arith, has, size)

  pub left_fits : (room : List ℕ) (n : ℕ) → length room ≡ 128 → (n % (32 * w) + 7) / 8 ≤ length (take (4 * w) room)
  left_fits room n size = rw (front_bytes room size, bits_are) (within f)
    where
      within : (f : Family) → (n % block_bits f + 7) / 8 ≤ block_bytes f
      within small = omega arith
      within large = omega arith

  pub last_block : (room bytes : List ℕ) (n : ℕ) {b : List ℕ} → length room ≡ 128
      → b ≡ table (length (take (4 * w) room)) (byte_of (message (drop (4 * w * (n / (32 * w))) bytes) (n % (32 * w))))
      → b ≡ block f (message bytes n) (n / block_bits f)
  last_block room bytes n size filled = block_last f bytes n (rw (front_bytes room size, bytes_are, bits_are) at filled)

  pub end_block : (room : List ℕ) (bits : ℕ) {b : List ℕ} → length room ≡ 128
      → b ≡ table (length (take (4 * w) room)) (λ j. bits / 256 ^ j % 256) → b ≡ length_block f bits
  unfolding length_block
  end_block room bits size filled = rw (front_bytes room size) at filled

pub zero_front : (n : ℕ) (xs : List ℕ) → all_zero xs ≡ true → all_zero (take n xs) ≡ true
zero_front n xs zero =
    all_zero_lem (take n xs)
    (λ i below.
    let near : i < n = omega (arith, length-take n xs) in
    get_or-take n xs i 0 near ∙ zero_at xs zero i)
