-- The worked cases of the definitions, as one table: each is a theorem that antt computes.
use Rattle.std.specs.Prelude.{true, false, List, [], ◌∷◌, ◌≡◌, refl, ℕ, pos, neg_ℤ, take, replicate}
use Rattle.simd.specs.Basic.{small, large, table, sum}
use Rattle.simd.specs.Message.{message_blocks, length_block}
use Rattle.simd.specs.Expansion.{power, added, transform, lift, residue, code}
use Rattle.simd.specs.Hash.{compressions}

pub cases :
    -- compressions of 0, 1, 512 and 513 bits at 256, of 1,024 and 1,025 bits at 512
    (compressions small 0 ≡ 1)
    × (compressions small 1 ≡ 2)
    × (compressions small 512 ≡ 2)
    × (compressions small 513 ≡ 3)
    × (compressions large 1024 ≡ 2)
    × (compressions large 1025 ≡ 3)
    -- the lift of 0, 128, 129 and 256
    × (lift 0 ≡ pos 0)
    × (lift 128 ≡ pos 128)
    × (lift 129 ≡ neg_ℤ (pos 128))
    × (lift 256 ≡ neg_ℤ (pos 1))
    -- the codes of 128 and of 129, which is lifted to -128
    × (code 185 128 ≡ 0x5c80)
    × (code 185 129 ≡ 0xa380)
    × (code 233 128 ≡ 0x7480)
    × (code 233 129 ≡ 0x8b80)
    -- the zero block, as message block and as length block: y at 1
    × (transform small false (replicate 64 0) 1 ≡ 98)
    × (transform small true (replicate 64 0) 1 ≡ 156)
    × (transform large false (replicate 128 0) 1 ≡ 163)
    × (transform large true (replicate 128 0) 1 ≡ 203)
    -- the large block 00 01 .. 7f: y at 0 (appendix A.4.2)
    × (transform large false (table 128 (λ j. j)) 0 ≡ 162)
    -- the length block of 700 bits begins bc 02
    × (take 2 (length_block small 700) ≡ 0xbc ∷ 0x02 ∷ [])
unfolding compressions message_blocks lift code residue transform added power sum table length_block
cases =
    (refl, refl, refl, refl, refl, refl, refl, refl, refl, refl, refl, refl, refl, refl, refl, refl, refl, refl, refl, refl)
