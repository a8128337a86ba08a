-- Two messages whose blocks are compressed side by side. Message blocks are numbered back from the last, which is 1.
use Rattle.std.specs.Prelude.{true, List, ◌≡◌, ℕ, ◌≤◌}
use Rattle.simd.specs.Basic.{family_of, is_width}
use Rattle.simd.specs.Constants.{start}
use Rattle.simd.specs.Message.{message_blocks}
use Rattle.bits.specs.Zero.{padded}
use Rattle.pairs.specs.declared.Message.{Message}
use Rattle.pairs.specs.Pairs.{state_at}

-- Both messages have the blocks up to number k.
pub record Both (width : ℕ) (a b : Message) (k : ℕ) : Type 0 where
  pub known : is_width width ≡ true
  pub first : k ≤ message_blocks (family_of width) a.bits
  pub second : k ≤ message_blocks (family_of width) b.bits

-- The states s and t, each in the first of 32 words with zeros behind, are those that go into the blocks of number k of the messages x and y.
pub record Reached (width : ℕ) (x y : List ℕ) (k : ℕ) (s t : List ℕ) : Type 0 where
  pub first : s ≡ padded 32 (state_at (family_of width) (start width) x k)
  pub second : t ≡ padded 32 (state_at (family_of width) (start width) y k)
