-- HMAC (FIPS 198-1, section 4) over the digest of SIMD v1.1. H is the digest of a width, B the bytes of its block, 64 or 128. A key is a string of
-- bytes and may be empty; the text is a message, a string of bits.
use Rattle.std.specs.Prelude.{cond, List, ◌++◌, ℕ, leb, length, get_or}
use Rattle.std.specs.Int.Bits.{bit_xor}
use Rattle.simd.specs.Basic.{family_of, block_bytes, table}
use Rattle.simd.specs.Message.{bits_of}
use Rattle.simd.specs.Hash.{digest}
use Rattle.bits.specs.Zero.{padded}

-- Steps 1 to 3. K0: the key, or H(key) where the key is longer than B bytes, with zeros to B bytes.
unfoldable pub key_block : ℕ → List ℕ → List ℕ
key_block width key =
    padded (block_bytes (family_of width)) (cond (leb (length key) (block_bytes (family_of width))) key (digest width (bits_of key)))

-- The inner pad and the outer pad: a byte each, repeated B times.
abbrev pub ipad : ℕ
ipad = 0x36

abbrev pub opad : ℕ
opad = 0x5c

-- Steps 4 and 7. A string of bytes xor a pad.
unfoldable pub masked : ℕ → List ℕ → List ℕ
masked pad block = table (length block) (λ j. bit_xor (get_or block j 0) pad)

-- Steps 5, 6, 8 and 9. H((K0 xor opad) || H((K0 xor ipad) || text)).
unfoldable pub tag : ℕ → List ℕ → List ℕ → List ℕ
tag width key text =
    digest width (bits_of (masked opad (key_block width key)) ++ bits_of (digest width (bits_of (masked ipad (key_block width key)) ++ text)))
