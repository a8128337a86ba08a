-- Numbers of blocks, for each family.
use mathlib.Core.Path.{◌≡◌}
use Prim.Native.Nat.{ℕ, ◌+◌, ◌*◌, ◌/◌, ◌%◌, ◌≤◌}
use native.Mathlib.Omega.{arith}
use Rattle.simd.specs.Basic.{Family, small, large, block_bits}
use Rattle.simd.specs.Message.{message_blocks}

-- The full blocks of n bits, and one more block where bits are left.
pub full_fits : (f : Family) (n : ℕ) → 512 * (n / block_bits f) ≤ n
full_fits small n = omega arith
full_fits large n = omega arith

pub none_left : (f : Family) (n : ℕ) → n % block_bits f ≡ 0 → n / block_bits f ≡ message_blocks f n
unfolding message_blocks
none_left small n none = omega arith
none_left large n none = omega arith

pub some_left : (f : Family) (n : ℕ) → (n % block_bits f ≡ 0 → ⊥) → n / block_bits f + 1 ≡ message_blocks f n
unfolding message_blocks
some_left small n some = omega arith
some_left large n some = omega arith

pub full_some : (f : Family) (n : ℕ) → n / block_bits f ≤ message_blocks f n
unfolding message_blocks
full_some small n = omega arith
full_some large n = omega arith

pub blocks_fit : (f : Family) (n : ℕ) → 512 * message_blocks f n ≤ n + 512
unfolding message_blocks
blocks_fit small n = omega arith
blocks_fit large n = omega arith
