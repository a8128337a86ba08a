-- A keyed hash holds two hashes, the inner one of (K0 xor ipad) || text and the outer one of K0 xor opad alone.
use Rattle.std.specs.Prelude.{Bool, ◌&&◌, List, ℕ, leb, eqb}
use Rattle.simd.specs.Basic.{block_bits}
use Rattle.simd.specs.Message.{bits_of}
use Rattle.hash.specs.Open.{family, legal, open_answer, advanced, digest_of}
use Rattle.hash.specs.declared.Hash.{Hash}

-- A hash of a width that was fed a block.
unfoldable pub begun : ℕ → List ℕ → Hash
begun width block = advanced (open_answer width).hash (bits_of block)

-- Whether two hashes are those of a keyed one: both legal, of one width, the inner one at least a block long and the outer one exactly.
unfoldable pub keyed : Hash → Hash → Bool
keyed inner outer =
    legal inner
    && (legal outer
    && (eqb outer.width inner.width
    && (leb (block_bits (family inner)) inner.bits
    && eqb outer.bits (block_bits (family inner)))))

-- The tag: the digest of the outer hash after it was fed that of the inner one.
unfoldable pub tag_from : Hash → Hash → List ℕ
tag_from inner outer = digest_of (advanced outer (bits_of (digest_of inner)))
