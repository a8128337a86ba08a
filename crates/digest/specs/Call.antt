-- When the digest of a whole message is refused.
use Rattle.std.specs.Prelude.{cond, List, ℕ, leb}
use Rattle.simd.specs.Basic.{is_width, digest_bytes}
use Rattle.hash.specs.Open.{first, piece_refusal}

-- 1 for an unknown width, then 2 or 4 for the message as for a piece after no bits, then 6 for too short an output.
unfoldable pub digest_refusal : ℕ → List ℕ → ℕ → ℕ → ℕ
digest_refusal width bytes count room = cond (is_width width) (first (piece_refusal 0 bytes count) (cond (leb (digest_bytes width) room) 0 6)) 1
