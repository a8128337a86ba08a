-- When the tag of a whole message is refused.
use Rattle.std.specs.Prelude.{cond, List, ℕ, leb, length}
use Rattle.simd.specs.Basic.{family_of, block_bits, digest_bytes}
use Rattle.hash.specs.Open.{first, piece_refusal}
use Rattle.hmac_key.specs.Refusal.{key_refusal}

-- 1 for an unknown width, 4 for a key above the limit, then 2 or 4 for the message as for a piece after a key block, then 6 for too short an output.
unfoldable pub tag_refusal : ℕ → List ℕ → List ℕ → ℕ → ℕ → ℕ
tag_refusal width key bytes count room =
    first (key_refusal width (length key))
    (first (piece_refusal (block_bits (family_of width)) bytes count) (cond (leb (digest_bytes width) room) 0 6))
