-- A message cut behind whole bytes, and the chain of states through both parts where the first has whole blocks.
use mathlib.Core.List.{List, [], ◌∷◌, ◌++◌, append_assoc}
use mathlib.Core.Path.{◌≡◌, refl, sym, ap, ◌∙◌}
use Prim.Native.Nat.{ℕ, ◌+◌, ◌*◌, ◌-◌, ◌/◌, ◌%◌, ◌^◌, ◌≤◌}
use native.Mathlib.Omega.{arith}
use lib.ListN.{length, take, drop, length-take, take-append-drop}
use lib.Seq.{take-append-add, drop_at}
use Rattle.simd.specs.Basic.{Family, small, large, block_bytes, block_bits, table}
use Rattle.simd.specs.Message.{bits_of, message, message_blocks}
use Rattle.simd.specs.Hash.{chain}
use Rattle.laws.proofs.Bits.{length_bits_of}
use Rattle.laws.proofs.Chain.{chain_add, chain_append}

bits_append : (x y : List ℕ) → bits_of (x ++ y) ≡ bits_of x ++ bits_of y
unfolding bits_of
bits_append [] y = refl
bits_append (b ∷ x) y =
    let first = table 8 (λ t. b / 2 ^ (7 - t) % 2) in
    ap (λ (m : List ℕ). first ++ m) (bits_append x y) ∙ sym (append_assoc first (bits_of x) (bits_of y))

-- A message is the bits of its first bytes, and the message of the bytes behind them.
pub message_split : (bytes : List ℕ) (count at : ℕ) → count ≤ 8 * length bytes → 8 * at ≤ count
    → message bytes count ≡ bits_of (take at bytes) ++ message (drop at bytes) (count - 8 * at)
unfolding message
message_split bytes count at within before =
    let front = bits_of (take at bytes) in
    let size : count ≡ length front + (count - 8 * at) = omega (arith, length_bits_of (take at bytes), length-take at bytes) in
    (λ i. take (size i) (bits_of (sym (take-append-drop at bytes) i)))
    ∙ ap (take (length front + (count - 8 * at))) (bits_append (take at bytes) (drop at bytes))
    ∙ take-append-add front (bits_of (drop at bytes)) (count - 8 * at)

-- The bits of whole blocks, and the blocks of the rest behind them.
pub whole_blocks : (f : Family) (n : ℕ) → n % block_bytes f ≡ 0 → 8 * n ≡ block_bits f * (n / block_bytes f)
whole_blocks small n e = omega arith
whole_blocks large n e = omega arith

rest_blocks : (f : Family) (m n : ℕ) → n % block_bytes f ≡ 0 → 8 * n ≤ m → message_blocks f m ≡ n / block_bytes f + message_blocks f (m - 8 * n)
unfolding message_blocks
rest_blocks small m n e low = omega arith
rest_blocks large m n e low = omega arith

module _ (f : Family) (from x : List ℕ) (m at : ℕ) (within : m ≤ 8 * length x) (whole : at % block_bytes f ≡ 0) (before : 8 * at ≤ m) where
  abbrev front : List ℕ
  front = bits_of (take at x)

  abbrev rest : List ℕ
  rest = message (drop at x) (m - 8 * at)

  front_bits : length front ≡ block_bits f * (at / block_bytes f)
  front_bits = omega (arith, length_bits_of (take at x), length-take at x, whole_blocks f at whole)

  -- Through blocks of the first part.
  pub chain_front : (k : ℕ) → block_bits f * k ≤ 8 * at → chain f from front k ≡ chain f from (message x m) k
  chain_front k inside =
      sym (chain_append f from front rest k (omega (arith, front_bits, whole_blocks f at whole)))
      ∙ ap (λ (l : List ℕ). chain f from l k) (sym (message_split x m at within before))

  -- Through all of it, and then through the rest.
  pub chain_split : chain f (chain f from front (at / block_bytes f)) rest (message_blocks f (m - 8 * at)) ≡ chain f from (message x m) (message_blocks f m)
  chain_split =
      let blocks = at / block_bytes f in
      sym (chain_add f from (front ++ rest) blocks (message_blocks f (m - 8 * at))
      ∙ (λ i. chain f (chain_append f from front rest blocks (omega (arith, front_bits)) i) (drop_at front rest (block_bits f * blocks) front_bits i)
      (message_blocks f (m - 8 * at))))
      ∙ (λ i. chain f from (sym (message_split x m at within before) i) (sym (rest_blocks f m at whole before) i))
