-- The pairs of a message: the state that goes into a block's compression, before the xor, and the block's bytes with their zeros.
-- Blocks are counted back: 0 is the length block, 1 the last message block, and so on to the first. So the numbers of a message are those
-- below its count of compressions.
use Rattle.std.specs.Prelude.{Bool, not, ◌&&◌, List, ℕ, zero, suc, ◌-◌, length}
use Rattle.simd.specs.Basic.{Family}
use Rattle.simd.specs.Message.{block, message_blocks, length_block}
use Rattle.simd.specs.Hash.{chain}
use Rattle.pairs.specs.Lists.{equal}

-- The pair at number n of the message m, whose width starts from the state `from`.
unfoldable pub state_at : Family → List ℕ → List ℕ → ℕ → List ℕ
state_at f from m n = chain f from m (message_blocks f (length m) - n)

unfoldable pub block_at : Family → List ℕ → ℕ → List ℕ
block_at f m zero = length_block f (length m)
block_at f m (suc n) = block f m (message_blocks f (length m) - suc n)

-- Two pairs differ where the states or the blocks do.
unfoldable pub unlike : List ℕ → List ℕ → List ℕ → List ℕ → Bool
unlike state block state' block' = not (equal state state' && equal block block')

unfoldable pub differ_at : Family → List ℕ → List ℕ → List ℕ → ℕ → Bool
differ_at f from a b n = unlike (state_at f from a n) (block_at f a n) (state_at f from b n) (block_at f b n)
