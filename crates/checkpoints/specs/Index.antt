-- The index beside a long record: its width and bit length, and the states (elsewhere checkpoints) before block 0, 16, 32 and so on, of the full
-- blocks so numbered. A correction starts at one of them.
use Rattle.std.specs.Prelude.{true, cond, List, [], ◌++◌, ℕ, zero, suc, ◌+◌, ◌*◌, ◌-◌, ◌/◌, min, eqb, length, take, drop}
use Rattle.simd.specs.Basic.{Family, family_of, block_bytes, block_bits, state_words, digest_bytes, bytes_of, words_of}
use Rattle.simd.specs.Constants.{start}
use Rattle.simd.specs.Message.{message_blocks, length_block}
use Rattle.simd.specs.Steps.{compression}
use Rattle.simd.specs.Hash.{chain, compressions}
use Rattle.form.specs.Head.{head_bytes, head}

-- The blocks from one kept state to the next.
abbrev pub spacing : ℕ
spacing = 16

-- The number of states kept of n bits. A block that is not full has none, nor has the length block.
unfoldable pub kept : Family → ℕ → ℕ
kept f n = (n / block_bits f + (spacing - 1)) / spacing

-- The bytes of an index of n bits.
abbrev pub index_bytes : ℕ → ℕ → ℕ
index_bytes width n = head_bytes + block_bytes (family_of width) * kept (family_of width) n

-- The first k states kept of m, from a given state, one behind the other.
unfoldable pub states : Family → List ℕ → List ℕ → ℕ → List ℕ
states f from m zero = []
states f from m (suc k) = states f from m k ++ bytes_of (chain f from m (spacing * k))

-- The index of a message.
unfoldable pub index_of : ℕ → List ℕ → List ℕ
index_of width m = head width (length m) ++ states (family_of width) (start width) m (kept (family_of width) (length m))

-- Kept state i of an index, counted from 0.
unfoldable pub kept_state : Family → List ℕ → ℕ → List ℕ
kept_state f index i = words_of (state_words f) (drop (head_bytes + block_bytes f * i) index)

-- A correction of n bits whose first corrected block is b starts at the last kept state at or before that block. The blocks before that state are
-- skipped.
unfoldable pub starts_at : Family → ℕ → ℕ → ℕ
starts_at f n b = min (b / spacing) (kept f n - 1)

unfoldable pub skipped : Family → ℕ → ℕ → ℕ
skipped f n b = spacing * starts_at f n b

-- The state that it starts from: the kept one, or the width's starting state where none is kept.
unfoldable pub start_state : ℕ → List ℕ → ℕ → ℕ → List ℕ
start_state width old n b =
    cond (eqb (kept (family_of width) n) 0) (start width) (kept_state (family_of width) old (starts_at (family_of width) n b))

-- What a run from kept state i on makes of a message, with `from` as that state: the states kept from there on, and the final state.
unfoldable pub states_from : Family → List ℕ → List ℕ → ℕ → List ℕ
states_from f from m i = states f from (drop (block_bits f * (spacing * i)) m) (kept f (length m) - i)

unfoldable pub final_from : Family → List ℕ → List ℕ → ℕ → List ℕ
final_from f from m i =
    compression f true
    (chain f from (drop (block_bits f * (spacing * i)) m) (message_blocks f (length m) - spacing * i))
    (length_block f (length m))

-- The new index, digest and number of compressions of the corrected message m, from the old index. What stands in the old one before the state
-- that the correction starts at is carried over.
unfoldable pub corrected_index : ℕ → List ℕ → List ℕ → ℕ → List ℕ
corrected_index width old m b =
    let f = family_of width in
    let i = starts_at f (length m) b in
    take (head_bytes + block_bytes f * i) old ++ states_from f (start_state width old (length m) b) m i

unfoldable pub corrected_digest : ℕ → List ℕ → List ℕ → ℕ → List ℕ
corrected_digest width old m b =
    let f = family_of width in
    take (digest_bytes width) (bytes_of (final_from f (start_state width old (length m) b) m (starts_at f (length m) b)))

unfoldable pub corrected_compressions : Family → ℕ → ℕ → ℕ
corrected_compressions f n b = compressions f n - skipped f n b
