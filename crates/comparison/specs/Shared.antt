-- The first k bytes of two messages are full blocks of both, and equal.
use Rattle.std.specs.Prelude.{◌≡◌, ℕ, ◌*◌, ◌%◌, ◌≤◌, take}
use Rattle.simd.specs.Basic.{Family, block_bytes}
use Rattle.pairs.specs.declared.Message.{Message}

pub record Shared (f : Family) (x y : Message) (k : ℕ) : Type 0 where
  pub blocks : k % block_bytes f ≡ 0
  pub first : 8 * k ≤ x.bits
  pub second : 8 * k ≤ y.bits
  pub front : take k x.bytes.now ≡ take k y.bytes.now
