-- Sizes of the two families, chains of states, and bytes that are clear past a place.
use mathlib.Core.Bool.{false}
use mathlib.Core.List.{List}
use mathlib.Core.Path.{◌≡◌}
use Prim.Native.Nat.{ℕ, zero, suc, ◌*◌, ◌%◌, ◌<◌, ◌≤◌}
use native.Mathlib.Omega.{arith}
use lib.ListN.{length}
use Rattle.simd.specs.Basic.{Family, small, large, block_bytes, block_bits, state_words}
use Rattle.simd.specs.Message.{block}
use Rattle.simd.specs.Hash.{chain}
use Rattle.laws.proofs.Chain.{length_compression}

pub words_within : (f : Family) → state_words f ≤ 32
words_within small = omega arith
words_within large = omega arith

pub used_within : (f : Family) (n : ℕ) → n % block_bits f < 1024
used_within small n = omega arith
used_within large n = omega arith

pub block_within : (f : Family) (n : ℕ) → n % block_bits f ≤ 8 * block_bytes f
block_within small n = omega arith
block_within large n = omega arith

pub bytes_within : (f : Family) → block_bytes f ≤ 128
bytes_within small = omega arith
bytes_within large = omega arith

pub chain_length : (f : Family) (s m : List ℕ) (k : ℕ) → length s ≡ state_words f → length (chain f s m k) ≡ state_words f
unfolding chain
chain_length f s m zero long = long
chain_length f s m (suc k) long = length_compression f false (chain f s m k) (block f m k)
