-- When a byte string is a stored form: width (2 bytes), bit length, state, and one block with the tail and zeros. Numbers are little endian. A form of
-- the old size stands for another, its `current` one, and this is asked of that.
use Rattle.std.specs.Prelude.{cond, List, ℕ, ◌+◌, ◌%◌, leb, eqb, length, drop}
use Rattle.simd.specs.Basic.{is_width, block_bytes, block_bits}
use Rattle.bits.specs.Zero.{clear}
use Rattle.form.specs.Head.{head_bytes, form_width, form_bits}
pub use Rattle.form.specs.Size.{form_bytes, form_family}

-- 8 under 2 bytes; 1 where the width is none of the four; 8 where the form has not today's size; 9 where a bit is set past the tail.
unfoldable pub restore_refusal : List ℕ → ℕ
restore_refusal form =
    cond (leb 2 (length form))
    (cond (is_width (form_width form))
    (cond (eqb (length form) (form_bytes (form_family form)))
    (cond (clear (form_bits form % block_bits (form_family form)) (drop (head_bytes + block_bytes (form_family form)) form)) 0 9)
    8)
    1)
    8
