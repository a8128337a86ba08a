-- When the quote of a digest is refused.
use Rattle.std.specs.Prelude.{cond, List, ℕ, leb, eqb, length}
use Rattle.simd.specs.Basic.{is_width, digest_bytes}

-- 1 where there is no such width, 7 where the digest is shorter or longer than it asks, 6 where the output has fewer than 18 bytes.
unfoldable pub quote_refusal : ℕ → List ℕ → ℕ → ℕ
quote_refusal width digest room = cond (is_width width) (cond (eqb (length digest) (digest_bytes width)) (cond (leb 18 room) 0 6) 7) 1
