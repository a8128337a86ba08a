-- Lists of zeros.
use Rattle.std.specs.Prelude.{Bool, true, ◌&&◌, List, [], ◌∷◌, ℕ, eqb, get_or, drop}
use Rattle.simd.specs.Basic.{table}
use Rattle.simd.specs.Message.{bits_of}

-- Whether every number of a list is 0.
unfoldable pub all_zero : List ℕ → Bool
all_zero [] = true
all_zero (x ∷ xs) = eqb x 0 && all_zero xs

-- Whether every bit of a byte string from place n on is 0.
unfoldable pub clear : ℕ → List ℕ → Bool
clear n bytes = all_zero (drop n (bits_of bytes))

-- A list made n long with zeros.
unfoldable pub padded : ℕ → List ℕ → List ℕ
padded n xs = table n (λ i. get_or xs i 0)
