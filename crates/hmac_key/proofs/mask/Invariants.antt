-- The bytes before the index are xor the pad, the others still the block's.
use Prim.Native.Nat.{ℕ, ◌≤◌}
use mathlib.Core.Path.{◌≡◌}
use lib.Bits.{bit_xor}
use lib.ListN.{get_or}
use Rattle.bits.proofs.Filling.{Filled}
use Rattle.hmac_key.proofs.mask.Given as goal

abbrev pub invariant-loop-byte : goal.invariant-loop-byte
invariant-loop-byte l =
    Filled 128 l.byte-index (λ j. bit_xor (get_or l.fn.block j 0) l.pad) l.byte-items
    × ((k : ℕ) → l.byte-index ≤ k → get_or l.byte-items k 0 ≡ get_or l.fn.block k 0)
