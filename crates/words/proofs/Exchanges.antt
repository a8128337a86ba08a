-- Row exchanges keep within the rows.
use Rattle.std.proofs.Common.{◌≡◌, ℕ, ◌%◌, ◌<◌, ltb, mod-lt, mod-eq_of_lt, lit<, ltb→lt}
use lib.Bits.{bit_xor, xor_lt}
use Rattle.simd.specs.Basic.{Family, small, large, rows}
use Rattle.simd.specs.Constants.{small_exchanges, large_exchanges, exchange}
use Rattle.simd.specs.Steps.{partner}
use Rattle.laws.proofs.Table.{every_at}

exchange_lt : (f : Family) (i : ℕ) → exchange f i < rows f
unfolding exchange small_exchanges large_exchanges
exchange_lt small i = ltb→lt _ _ (every_at (λ _ x. ltb x 4) 0 small_exchanges tt (i % 3) (mod-lt i (lit< tt)))
exchange_lt large i = ltb→lt _ _ (every_at (λ _ x. ltb x 8) 0 large_exchanges tt (i % 7) (mod-lt i (lit< tt)))

pub partner_lt : (f : Family) (i j : ℕ) → j < rows f → partner f i j < rows f
unfolding partner
partner_lt small i j below = xor_lt 2 j (exchange small i) below (exchange_lt small i)
partner_lt large i j below = xor_lt 3 j (exchange large i) below (exchange_lt large i)

-- The code's partner, which is reduced modulo the rows.
pub partner_code : (f : Family) (i j : ℕ) → j < rows f → bit_xor j (exchange f i) % rows f ≡ partner f i j
unfolding partner
partner_code f i j below = mod-eq_of_lt (partner_lt f i j below)
