-- When a fresh run and a correction are refused.
use Rattle.std.specs.Prelude.{Bool, cond, ◌&&◌, List, ℕ, leb, eqb, length}
use Rattle.simd.specs.Basic.{family_of, is_width, digest_bytes}
use Rattle.simd.specs.Message.{message_blocks}
use Rattle.form.specs.Head.{form_width, form_bits}
use Rattle.hash.specs.Open.{first, piece_refusal}
use Rattle.checkpoints.specs.Index.{index_bytes}

-- 1 for an unknown width, then 2 or 4 for the message as for a piece after no bits.
unfoldable pub message_refusal : ℕ → List ℕ → ℕ → ℕ
message_refusal width bytes count = cond (is_width width) (piece_refusal 0 bytes count) 1

-- 6 where one of the two outputs is too short.
unfoldable pub room_refusal : ℕ → ℕ → ℕ → ℕ → ℕ
room_refusal width n indexRoom room = cond (leb (index_bytes width n) indexRoom && leb (digest_bytes width) room) 0 6

-- The fresh run: 1, 2, 4, 6.
unfoldable pub index_refusal : ℕ → List ℕ → ℕ → ℕ → ℕ → ℕ
index_refusal width bytes count indexRoom room = first (message_refusal width bytes count) (room_refusal width count indexRoom room)

-- Whether an index is of the size, the width and the length that n bits at a width ask.
unfoldable pub fits : ℕ → ℕ → List ℕ → Bool
fits width n index = eqb (length index) (index_bytes width n) && (eqb (form_width index) width && eqb (form_bits index) n)

-- 15 where the old index does not fit, or the block's number is above the length block's, which comes behind the message blocks.
unfoldable pub fit_refusal : ℕ → ℕ → List ℕ → ℕ → ℕ
fit_refusal width n old b = cond (fits width n old && leb b (message_blocks (family_of width) n)) 0 15

-- The correction: 1, 2, 4, 15, 6.
unfoldable pub reindex_refusal : ℕ → List ℕ → ℕ → List ℕ → ℕ → ℕ → ℕ → ℕ
reindex_refusal width bytes count old b indexRoom room =
    first (message_refusal width bytes count) (first (fit_refusal width count old b) (room_refusal width count indexRoom room))
