-- The last bits of a message, and the compressions that they take.
use mathlib.Core.List.{List}
use mathlib.Core.Path.{◌≡◌, sym, ap, ◌∙◌}
use Prim.Native.Nat.{ℕ, ◌+◌, ◌*◌, ◌-◌, ◌/◌, ◌%◌, ◌^◌, ◌<◌, ◌≤◌}
use native.Mathlib.Omega.{arith}
use lib.ListN.{length, take, length-take}
use lib.Seq.{get_or-take, ext_get_or}
use Rattle.simd.specs.Basic.{Family, small, large, block_bits}
use Rattle.simd.specs.Message.{bits_of, message_blocks}
use Rattle.simd.specs.Hash.{compressions}
use Rattle.laws.proofs.Bits.{length_bits_of, bit_at}

-- The first n bits of a byte string are in its first bytes.
pub front_bits : (bytes : List ℕ) (n : ℕ) → n ≤ 8 * length bytes → take n (bits_of (take ((n + 7) / 8) bytes)) ≡ take n (bits_of bytes)
front_bits bytes n within =
    let front = take ((n + 7) / 8) bytes in
    let size : length (take n (bits_of front)) ≡ length (take n (bits_of bytes)) =
    omega (arith, length-take n (bits_of front), length-take n (bits_of bytes), length_bits_of front, length_bits_of bytes, length-take ((n + 7) / 8) bytes) in
    ext_get_or 0 (take n (bits_of front)) (take n (bits_of bytes)) size
    (λ i below.
    let inside : i < n = omega (arith, length-take n (bits_of front)) in
    let byte = get_or-take ((n + 7) / 8) bytes (i / 8) 0 (omega arith) in
    get_or-take n (bits_of front) i 0 inside
    ∙ bit_at front i ∙ ap (λ (b : ℕ). b / 2 ^ (7 - i % 8) % 2) byte ∙ sym (bit_at bytes i)
    ∙ sym (get_or-take n (bits_of bytes) i 0 inside))

-- The number of compressions that fewer bits than a block take.
pub one_compression : (f : Family) (n u : ℕ) → u ≡ n % block_bits f → u ≡ 0 → 1 ≡ compressions f (n % block_bits f)
unfolding compressions message_blocks
one_compression small n u e none = omega arith
one_compression large n u e none = omega arith

pub two_compressions : (f : Family) (n u : ℕ) → u ≡ n % block_bits f → (u ≡ 0 → ⊥) → 2 ≡ compressions f (n % block_bits f)
unfolding compressions message_blocks
two_compressions small n u e some = omega arith
two_compressions large n u e some = omega arith
