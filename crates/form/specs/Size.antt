-- The size of a stored form, and forms of the old size, whose bit length has 4 bytes.
use Rattle.std.specs.Prelude.{◌≡◌, ◌≤◌, cond, List, ◌++◌, ℕ, ◌+◌, ◌*◌, ◌-◌, eqb, length, take, drop}
use Rattle.simd.specs.Basic.{Family, family_of, block_bytes, table}
use Rattle.little_endian.specs.Numbers.{little_endian}
use Rattle.form.specs.Head.{head_bytes, form_width}

-- The bytes of a form: its head, a state and a block.
abbrev pub form_bytes : Family → ℕ
form_bytes f = head_bytes + 2 * block_bytes f

abbrev pub form_family : List ℕ → Family
form_family form = family_of (form_width form)

-- An old head, its bytes, and those of an old form.
abbrev pub old_length_bytes : ℕ
old_length_bytes = 4

abbrev pub old_head : ℕ → ℕ → List ℕ
old_head width bits = little_endian 2 width ++ little_endian old_length_bytes bits

abbrev pub old_head_bytes : ℕ
old_head_bytes = 2 + old_length_bytes

abbrev pub old_form_bytes : Family → ℕ
old_form_bytes f = old_head_bytes + 2 * block_bytes f

-- An old form with zeros as the high bytes of its length.
unfoldable pub widened : List ℕ → List ℕ
widened form = take old_head_bytes form ++ table (head_bytes - old_head_bytes) (λ _. 0) ++ drop old_head_bytes form

-- The form of today that a form stands for. An old one is told by its size.
unfoldable pub current : List ℕ → List ℕ
current form = cond (eqb (length form) (old_form_bytes (form_family form))) (widened form) form

-- A form, of today's size or the old one, whose blocks have `size` bytes.
abbrev pub IsWhole : List ℕ → ℕ → Type 0
IsWhole form size =
    (size ≡ block_bytes (form_family form)) × (size ≤ 128) × (length (current form) ≡ form_bytes (form_family form))
