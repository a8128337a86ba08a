-- The iteration, the final state, the digest and the number of compressions (sections 1.2, 1.2.1 and 1.2.4).
use Rattle.std.specs.Prelude.{false, true, List, ℕ, zero, suc, ◌+◌, length, take}
use Rattle.simd.specs.Basic.{Family, family_of, digest_bytes, bytes_of}
use Rattle.simd.specs.Constants.{start}
use Rattle.simd.specs.Message.{block, message_blocks, length_block}
use Rattle.simd.specs.Steps.{compression}

-- The state after the first k message blocks of m, from a given state: the chaining value.
unfoldable pub chain : Family → List ℕ → List ℕ → ℕ → List ℕ
chain f from m zero = from
chain f from m (suc k) = compression f false (chain f from m k) (block f m k)

-- The state after all blocks: the message blocks, then the length block.
unfoldable pub final : Family → List ℕ → List ℕ → List ℕ
final f from m = compression f true (chain f from m (message_blocks f (length m))) (length_block f (length m))

-- A message's final state at a width, and its digest: the first bytes of that state.
unfoldable pub final_state : ℕ → List ℕ → List ℕ
final_state width m = final (family_of width) (start width) m

unfoldable pub digest : ℕ → List ℕ → List ℕ
digest width m = take (digest_bytes width) (bytes_of (final_state width m))

-- The number of compressions that n bits take.
unfoldable pub compressions : Family → ℕ → ℕ
compressions f n = message_blocks f n + 1
