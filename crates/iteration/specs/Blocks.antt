-- The state after blocks of a byte string.
use Rattle.std.specs.Prelude.{List, ℕ}
use Rattle.simd.specs.Basic.{Family}
use Rattle.simd.specs.Message.{bits_of}
use Rattle.simd.specs.Hash.{chain}

-- The state after the first k blocks of a byte string, zeros past its end.
abbrev pub absorbed : Family → List ℕ → List ℕ → ℕ → List ℕ
absorbed f from bytes k = chain f from (bits_of bytes) k
