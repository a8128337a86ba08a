-- Sizes of indexes, places where corrections start, and refusals, as one table: each is a theorem that antt computes from the definitions.
use Rattle.std.specs.Prelude.{List, [], ◌∷◌, ◌++◌, ◌≡◌, refl, ℕ, replicate}
use Rattle.simd.specs.Basic.{small, large, table, sum}
use Rattle.simd.specs.Message.{message_blocks}
use Rattle.simd.specs.Hash.{compressions}
use Rattle.little_endian.specs.Numbers.{little_endian, number}
use Rattle.form.specs.Head.{head, form_width, form_bits}
use Rattle.hash.specs.Open.{first, piece_refusal}
use Rattle.checkpoints.specs.Index.{kept, index_bytes, starts_at, skipped, corrected_compressions}
use Rattle.checkpoints.specs.Calls.{message_refusal, room_refusal, index_refusal, fits, fit_refusal, reindex_refusal}

-- A message of 600 bits, and its index: the head, and one state, whatever it is.
abbrev bytes : List ℕ
bytes = replicate 75 0

abbrev old : List ℕ
old = 0 ∷ 1 ∷ 88 ∷ 2 ∷ 0 ∷ 0 ∷ 0 ∷ 0 ∷ 0 ∷ 0 ∷ replicate 64 0

pub cases :
    -- the head of 600 bits at 256
    (head 256 600 ≡ 0 ∷ 1 ∷ 88 ∷ 2 ∷ 0 ∷ 0 ∷ 0 ∷ 0 ∷ 0 ∷ 0 ∷ [])
    -- no full block; one; 16 and all but a bit of another; 17
    × (index_bytes 256 511 ≡ 10)
    × (index_bytes 256 512 ≡ 74)
    × (index_bytes 256 8703 ≡ 74)
    × (index_bytes 256 8704 ≡ 138)
    × (index_bytes 512 1024 ≡ 138)
    × (index_bytes 512 17407 ≡ 138)
    × (index_bytes 512 17408 ≡ 266)
    -- of 17 full blocks: from blocks 15, 16 and the length block; of 16 and a part: from the part
    × (starts_at small 8704 15 ≡ 0)
    × (starts_at small 8704 16 ≡ 1)
    × (starts_at small 8704 17 ≡ 1)
    × (starts_at small 8703 16 ≡ 0)
    -- what is compressed: 17 or 33 message blocks and the length block, less 16
    × (corrected_compressions small 8704 17 ≡ 2)
    × (corrected_compressions large 33000 20 ≡ 18)
    -- the order of the refusals, and both sides of each limit: 2 message blocks, so that the length block is block 2
    × (reindex_refusal 160 bytes 601 old 3 0 0 ≡ 1)
    × (reindex_refusal 256 bytes 601 old 3 0 0 ≡ 2)
    × (reindex_refusal 256 bytes 600 old 3 0 0 ≡ 15)
    × (reindex_refusal 256 bytes 599 old 2 0 0 ≡ 15)
    × (reindex_refusal 224 bytes 600 old 2 0 0 ≡ 15)
    × (reindex_refusal 256 bytes 600 (old ++ (0 ∷ [])) 2 0 0 ≡ 15)
    × (reindex_refusal 256 bytes 600 old 2 73 32 ≡ 6)
    × (reindex_refusal 256 bytes 600 old 2 74 31 ≡ 6)
    × (reindex_refusal 256 bytes 600 old 2 74 32 ≡ 0)
    × (index_refusal 256 bytes 600 73 32 ≡ 6)
    × (index_refusal 256 bytes 600 74 32 ≡ 0)
unfolding table sum little_endian number form_width form_bits message_blocks compressions kept starts_at skipped corrected_compressions message_refusal room_refusal
    index_refusal fits fit_refusal reindex_refusal first piece_refusal
cases = (refl, refl, refl, refl, refl, refl, refl, refl, refl, refl, refl, refl, refl, refl, refl, refl, refl, refl, refl, refl, refl, refl, refl, refl, refl)
