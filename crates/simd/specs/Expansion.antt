-- The message expansion (sections 1.1.2, 1.2.2 and 1.2.4): transform, inner code, matrix Z and its order.
-- Throughout, `last` is true for the length block and false for a message block.
use Rattle.std.specs.Prelude.{Bool, true, false, cond, List, ℕ, zero, suc, ◌+◌, ◌*◌, ◌-◌, ◌%◌, leb, ltb, ℤ, pos, negsuc, ◌-ℤ◌, ◌*ℤ◌, get_or}
use Rattle.simd.specs.Basic.{Family, rows, block_bytes, points, table, sum}
use Rattle.simd.specs.Constants.{root, order}

-- w^e modulo 257.
unfoldable pub power : ℕ → ℕ → ℕ
power w zero = 1
power w (suc e) = w * power w e % 257

-- First layer. Value i of the transform of a block: the sum of b_j w^(ij), plus w^(-i), and for the length block plus w^(-3i).
-- w has order 32 R, so the negative powers are written with 32 R - 1 and 32 R - 3, as in the public document (127 and 125, 255 and 253).
unfoldable pub added : Family → Bool → ℕ → ℕ
added f last i = power (root f) ((points f - 1) * i) + cond last (power (root f) ((points f - 3) * i)) 0

unfoldable pub transform : Family → Bool → List ℕ → ℕ → ℕ
transform f last b i = (sum (block_bytes f) (λ j. get_or b j 0 * power (root f) (i * j)) + added f last i) % 257

-- Second layer, the inner code. The lift of y is the number from -128 to 128 that equals y modulo 257.
unfoldable pub lift : ℕ → ℤ
lift y = cond (leb y 128) (pos y) (pos y -ℤ pos 257)

-- The number from 0 to 65,535 that equals z modulo 65,536.
unfoldable pub residue : ℤ → ℕ
residue (pos n) = n % 65536
residue (negsuc n) = 65535 - n % 65536

-- The code by c, which is 185 or 233, and a word of two codes, the low half first.
unfoldable pub code : ℕ → ℕ → ℕ
code c y = residue (pos c *ℤ lift y)

unfoldable pub pair : ℕ → ℕ → ℕ → ℕ
pair c low high = code c low + 65536 * code c high

-- Third layer. Word j of row i of the matrix Z, from the values y.
unfoldable pub matrix : Family → (ℕ → ℕ) → ℕ → ℕ → ℕ
matrix f y i j =
    cond (ltb i 16) (pair 185 (y (2 * rows f * i + 2 * j)) (y (2 * rows f * i + 2 * j + 1)))
    (cond (ltb i 24) (pair 233 (y (2 * rows f * (i - 16) + 2 * j)) (y (2 * rows f * (i - 16) + 2 * j + 16 * rows f)))
    (pair 233 (y (2 * rows f * (i - 24) + 2 * j + 1)) (y (2 * rows f * (i - 24) + 2 * j + 1 + 16 * rows f))))

-- The expanded block: 32 rows of R words. Row i is row P(i) of Z.
unfoldable pub expanded : Family → Bool → List ℕ → List (List ℕ)
expanded f last b = table 32 (λ i. table (rows f) (matrix f (transform f last b) (get_or order i 0)))
