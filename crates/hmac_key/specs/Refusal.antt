-- When a width and a key open no keyed hash.
use Rattle.std.specs.Prelude.{cond, ℕ, ◌*◌, leb}
use Rattle.simd.specs.Basic.{is_width}
use Rattle.hash.specs.Open.{limit}

-- 1 where the width is none of the four; 4 where a key of so many bytes is above the bit limit.
unfoldable pub key_refusal : ℕ → ℕ → ℕ
key_refusal width bytes = cond (is_width width) (cond (leb (8 * bytes) limit) 0 4) 1
