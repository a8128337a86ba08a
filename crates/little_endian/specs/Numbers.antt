-- Numbers in bytes, low byte first.
use Rattle.std.specs.Prelude.{List, ℕ, ◌*◌, ◌/◌, ◌%◌, ◌^◌, get_or}
use Rattle.simd.specs.Basic.{table, sum}

-- A number in n bytes, and the number that the first n bytes are.
unfoldable pub little_endian : ℕ → ℕ → List ℕ
little_endian n x = table n (λ t. x / 256 ^ t % 256)

unfoldable pub number : ℕ → List ℕ → ℕ
number n bytes = sum n (λ t. get_or bytes t 0 * 256 ^ t)
