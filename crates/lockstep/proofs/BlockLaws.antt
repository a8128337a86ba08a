-- Laws of a block read from a byte string, by width: the bits from the block's first on, as far as the message goes or, before that, the block.
-- Byte for byte they are the message's block, with zeros behind.
use mathlib.Core.List.{List}
use mathlib.Core.Path.{◌≡◌, sym, ap, ◌∙◌}
use Prim.Native.Nat.{ℕ, zero, suc, ◌+◌, ◌*◌, ◌-◌, ◌/◌, ◌^◌, ◌<◌, ◌≤◌, min}
use native.Mathlib.Decide.{dec_lt}
use native.Mathlib.Omega.{arith}
use lib.ListN.{length, get_or, take, drop, get_or-eq_default, length-take}
use lib.Seq.{get_or-drop}
use Rattle.simd.specs.Basic.{Family, small, large, block_bytes, block_bits, table}
use Rattle.simd.specs.Message.{byte_of, message, block, message_blocks}
use Rattle.laws.proofs.Table.{length_table, get_d_table, table_ext}
use Rattle.iteration.specs.Blocks.{absorbed}
use Rattle.bits.specs.Zero.{padded}
use Rattle.bits.proofs.Front.{before_cut, behind_cut, at_cut}
use Rattle.tail.proofs.Sizes.{bytes_within}
use Rattle.hash.proofs.Feeding.{length_message}
use Rattle.pairs.specs.Pairs.{block_at}

-- A block of the message starts before the message ends.
start_within : (f : Family) (n number : ℕ) → 1 ≤ number → number ≤ message_blocks f n → block_bits f * (message_blocks f n - number) < n
unfolding message_blocks
start_within small n number one has = omega arith
start_within large n number one has = omega arith

pub at_within : (f : Family) (n number : ℕ) {size count : ℕ} → 1 ≤ number → number ≤ message_blocks f n → size ≡ block_bytes f
    → count ≡ message_blocks f n → 8 * (size * (count - number)) < n
at_within f n number {size} {count} one has sized counted =
    let at : size * (count - number) ≡ block_bytes f * (message_blocks f n - number) = λ i. sized i * (counted i - number) in
    omega (arith, at, start_within f n number one has)

pub size_within : (f : Family) {size : ℕ} → size ≡ block_bytes f → size ≤ 128
size_within f e = omega (arith, bytes_within f)

pub length_block_lem : (f : Family) (m : List ℕ) (k : ℕ) → length (block f m k) ≡ block_bytes f
unfolding block
length_block_lem f m k = length_table (block_bytes f) _

module _ (f : Family) (bytes : List ℕ) (n number : ℕ) (fits : (j : ℕ) → get_or bytes j 0 < 256) (within : n ≤ 8 * length bytes) (one : 1 ≤ number)
    (has : number ≤ message_blocks f n) {whole count end : ℕ} (sized : whole ≡ block_bytes f) (counted : count ≡ message_blocks f n)
    (ends : end ≡ min (8 * whole) (n - 8 * (whole * (count - number)))) where
  abbrev at : ℕ
  at = whole * (count - number)

  abbrev k : ℕ
  k = message_blocks f n - number

  start : at ≡ block_bytes f * k
  start i = sized i * (counted i - number)

  before : 8 * at < n
  before = at_within f n number one has sized counted

  -- The bytes from the block's first on.
  abbrev b : List ℕ
  b = drop at bytes

  here : (j : ℕ) → get_or b j 0 ≡ get_or bytes (at + j) 0
  here j = get_or-drop at bytes j 0

  byte : (j : ℕ) → get_or b j 0 < 256
  byte j = rw (here j) (fits (at + j))

  -- A byte of the block: whole, the one that the message ends in, or past it.
  same_byte : (j : ℕ) → j < block_bytes f → byte_of (message b end) j ≡ byte_of (message bytes n) (at + j)
  same_byte j below =
      let inside = before in
      elim (dec_lt end (8 * j + 8)) [
        | no whole ↦
            before_cut b end j (byte j) (omega arith) ∙ here j
            ∙ sym (before_cut bytes n (at + j) (fits (at + j)) (omega arith))
        | yes ended ↦
            elim (dec_lt (8 * j) end) [
              | no past ↦ behind_cut b end j (omega arith) ∙ sym (behind_cut bytes n (at + j) (omega arith))
              | yes last ↦
                  at_cut b end j (end - 8 * j) (8 * j + 8 - end) (byte j) (omega arith) (omega arith)
                  ∙ ap (λ (x : ℕ). x / 2 ^ (8 * j + 8 - end) * 2 ^ (8 * j + 8 - end)) (here j)
                  ∙ sym (at_cut bytes n (at + j) (end - 8 * j) (8 * j + 8 - end) (fits (at + j)) (omega arith) (omega arith))
            ]
      ]

  -- The block of a number, counted from the front.
  numbered : (i : ℕ) → 1 ≤ i → block f (message bytes n) (message_blocks f n - i) ≡ block_at f (message bytes n) i
  unfolding block_at
  numbered zero low = absurd (omega arith)
  numbered (suc i) low = rw (length_message bytes n within)

  cut_block : table 128 (byte_of (message b end)) ≡ padded 128 (block_at f (message bytes n) number)
  unfolding padded block
  cut_block = table_ext 128 _ _ (λ j _. at_place j) ∙ ap (padded 128) (numbered number one)
    where
      at_place : (j : ℕ) → byte_of (message b end) j ≡ get_or (table (block_bytes f) (λ i. byte_of (message bytes n) (block_bytes f * k + i))) j 0
      at_place j = elim (dec_lt j (block_bytes f)) [
        | yes below ↦
            same_byte j below ∙ ap (λ (i : ℕ). byte_of (message bytes n) (i + j)) start
            ∙ sym (get_d_table (block_bytes f) (λ i. byte_of (message bytes n) (block_bytes f * k + i)) j 0 below)
        | no behind ↦
            behind_cut b end j (omega arith)
            ∙ sym (get_or-eq_default (table (block_bytes f) (λ i. byte_of (message bytes n) (block_bytes f * k + i))) 0 {n = j}
            (omega (arith, length_table (block_bytes f) (λ i. byte_of (message bytes n) (block_bytes f * k + i)))))
      ]

  pub block_filled : {c : List ℕ} → c ≡ table 128 (byte_of (message b end)) → c ≡ padded 128 (block_at f (message bytes n) number)
  block_filled filled = filled ∙ cut_block

-- One block is what `tail::absorb` finds in the bytes of a block.
pub absorbed_once : (f : Family) (s x : List ℕ) (size : ℕ) {new : List ℕ} → size ≡ block_bytes f → size ≤ length x
    → new ≡ padded 32 (absorbed f s (take size x) (length (take size x) / block_bytes f)) → new ≡ padded 32 (absorbed f s (take (block_bytes f) x) 1)
absorbed_once f s x size sized within absorbs =
    let one : length (take size x) / block_bytes f ≡ 1 = once f (length (take size x)) (omega (arith, length-take size x)) in
    absorbs ∙ rw (one, sized)
  where
    once : (f : Family) (l : ℕ) → l ≡ block_bytes f → l / block_bytes f ≡ 1
    once small l e = omega arith
    once large l e = omega arith
