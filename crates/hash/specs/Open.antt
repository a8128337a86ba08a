-- The open hash, elsewhere a hashing context. It stands for a state after all full blocks (the chaining value) and for the bits behind them,
-- fewer than a block: the tail, elsewhere the buffered partial block. What follows is worked out from these two and the bit length, whether or
-- not a message reaches them. To open, feed a piece and take are elsewhere init, update with a part of the input, and final.
use Rattle.std.specs.Prelude.{Bool, true, cond, Result, Ok, Err, List, [], ◌++◌, ℕ, zero, suc, ◌+◌, ◌*◌, ◌-◌, ◌/◌, ◌%◌, ◌^◌, leb, length, take, drop}
use Rattle.simd.specs.Basic.{Family, family_of, is_width, block_bits, digest_bytes, state_words, bytes_of, table}
use Rattle.simd.specs.Constants.{start}
use Rattle.simd.specs.Message.{bits_of, byte_of, message, message_blocks, length_block}
use Rattle.simd.specs.Steps.{compression}
use Rattle.simd.specs.Hash.{chain, compressions}
use Rattle.bits.specs.Zero.{padded}
use Rattle.hash_parts.specs.Legal.{legal_parts}
use Rattle.refusals.specs.declared.Refusal.{Refusal}
use Rattle.refusals.specs.Numbers.{number, number_of}
use Rattle.hash.specs.declared.Hash.{Hash}

-- An answer: the hash after it, `blocks` compressed, and the refusal's number, or 0. A refusal leaves the hash as it was handed over; it is all
-- zeros where none was (open, restore).
pub record Opened : Type 0 where
  pub hash : Hash
  pub refusal : ℕ

pub record Fed : Type 0 where
  pub hash : Hash
  pub blocks : ℕ
  pub refusal : ℕ

pub record Taken : Type 0 where
  pub hash : Hash
  pub blocks : ℕ
  pub refusal : ℕ

-- The longest message, in bits.
abbrev pub limit : ℕ
limit = 2 ^ 64 - 1

abbrev pub family : Hash → Family
family h = family_of h.width

-- The number of bits in the tail.
abbrev pub used : Hash → ℕ
used h = h.bits % block_bits (family h)

-- The state after all full blocks, and the bits of the tail.
unfoldable pub reached : Hash → List ℕ
reached h = take (state_words (family h)) h.state

unfoldable pub pending : Hash → List ℕ
pending h = take (used h) (bits_of h.tail)

-- The hash that holds a width, a bit length, a state and the bits of a tail.
unfoldable pub holding : ℕ → ℕ → List ℕ → List ℕ → Hash
holding width bits state tail = record { width = width; bits = bits; state = padded 32 state; tail = table 128 (byte_of tail) }

-- Whether a hash is one of the four widths with no bit set past the family's state, block or tail.
unfoldable pub legal : Hash → Bool
legal h = legal_parts h.width h.bits h.state h.tail

-- Open: 1 where the width is none of the four.
unfoldable pub open_refusal : ℕ → ℕ
open_refusal width = cond (is_width width) 0 1

-- An answer with no hash handed over: refused, the hash is all zeros.
unfoldable pub opened : ℕ → Hash → Opened
opened zero h = record { hash = h; refusal = 0 }
opened (suc r) h = record { hash = holding 0 0 [] []; refusal = suc r }

-- The answer of `open` and of `restore`.
abbrev pub opened_as : {A : Type 0} → Hash → Result A Refusal → Opened
opened_as h answer = record { hash = h; refusal = number_of answer }

abbrev pub opened_by : Result Hash Refusal → Opened
opened_by (Ok h) = record { hash = h; refusal = 0 }
opened_by (Err r) = record { hash = holding 0 0 [] []; refusal = number r }

unfoldable pub open_answer : ℕ → Opened
open_answer width = opened (open_refusal width) (holding width 0 (start width) [])

-- Feed: the blocks that n more bits make full, and the hash after the bits m.
unfoldable pub full_blocks : Hash → ℕ → ℕ
full_blocks h n = (used h + n) / block_bits (family h)

unfoldable pub advanced : Hash → List ℕ → Hash
advanced h m =
    let joined = pending h ++ m in
    let k = full_blocks h (length m) in
    holding h.width (h.bits + length m) (chain (family h) (reached h) joined k) (drop (block_bits (family h) * k) joined)

-- A piece after n bits: 2 where the count is above its bits, 4 where the total is above the limit. What stands past the count is ignored.
unfoldable pub piece_refusal : ℕ → List ℕ → ℕ → ℕ
piece_refusal n piece count = cond (leb count (8 * length piece)) (cond (leb (n + count) limit) 0 4) 2

unfoldable pub feed_refusal : Hash → List ℕ → ℕ → ℕ
feed_refusal h piece count = cond (legal h) (piece_refusal h.bits piece count) 5

unfoldable pub fed : ℕ → Hash → List ℕ → Fed
fed zero h m = record { hash = advanced h m; blocks = full_blocks h (length m); refusal = 0 }
fed (suc r) h m = record { hash = h; blocks = 0; refusal = suc r }

-- The answer of `feed`, with the hash after it.
abbrev pub fed_by : Hash → Result ℕ Refusal → Fed
fed_by h (Ok n) = record { hash = h; blocks = n; refusal = 0 }
fed_by h (Err r) = record { hash = h; blocks = 0; refusal = number r }

unfoldable pub feed_answer : Hash → List ℕ → ℕ → Fed
feed_answer h piece count = fed (feed_refusal h piece count) h (message piece count)

-- Take: the tail, filled with zeros, is the last message block where it holds a bit; then comes the length block.
unfoldable pub final_of : Hash → List ℕ
final_of h =
    compression (family h) true
    (chain (family h) (reached h) (pending h) (message_blocks (family h) (used h)))
    (length_block (family h) h.bits)

unfoldable pub digest_of : Hash → List ℕ
digest_of h = take (digest_bytes h.width) (bytes_of (final_of h))

-- 6 where the buffer lent is too short.
unfoldable pub take_refusal : Hash → List ℕ → ℕ
take_refusal h out = cond (legal h) (cond (leb (digest_bytes h.width) (length out)) 0 6) 5

unfoldable pub taken : ℕ → Hash → Taken
taken zero h = record { hash = h; blocks = compressions (family h) (used h); refusal = 0 }
taken (suc r) h = record { hash = h; blocks = 0; refusal = suc r }

-- The answer of `take`, with the hash.
abbrev pub taken_by : Hash → Result ℕ Refusal → Taken
taken_by h (Ok n) = record { hash = h; blocks = n; refusal = 0 }
taken_by h (Err r) = record { hash = h; blocks = 0; refusal = number r }

unfoldable pub take_answer : Hash → List ℕ → Taken
take_answer h out = taken (take_refusal h out) h

-- A buffer with bytes written to its front, unless refused.
unfoldable pub written : ℕ → List ℕ → List ℕ → List ℕ
written zero bytes out = bytes ++ drop (length bytes) out
written (suc r) bytes out = out

-- A number behind a pointer, likewise.
unfoldable pub stored : ℕ → ℕ → ℕ → ℕ
stored zero new old = new
stored (suc r) new old = old

-- The first of two refusals that is no 0.
unfoldable pub first : ℕ → ℕ → ℕ
first zero r = r
first (suc n) r = suc n
