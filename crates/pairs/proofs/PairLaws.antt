-- Laws of the pairs of a message.
use mathlib.Core.Bool.{Bool, true, false, not, ◌&&◌}
use mathlib.Core.List.{List}
use mathlib.Core.Path.{◌≡◌, refl, sym, ap, ◌∙◌}
use Prim.Native.Nat.{ℕ, suc, ◌-◌, ◌<◌}
use native.Mathlib.Omega.{arith}
use lib.ListN.{length}
use Rattle.simd.specs.Basic.{Family}
use Rattle.simd.specs.Message.{block, message_blocks, length_block}
use Rattle.simd.specs.Steps.{compression}
use Rattle.simd.specs.Hash.{chain, final, compressions}
use Rattle.pairs.specs.Lists.{equal}
use Rattle.pairs.specs.Pairs.{state_at, block_at, unlike, differ_at}
use Rattle.pairs.specs.Compared.{common}
use Rattle.pairs.proofs.ListLaws.{equal_true, equal_refl}
use Rattle.pairs.proofs.MessageLaws.{IsMessage, message_ext, length_ext}

-- The starting state goes into the first block, the state that comes out of a message block into the next one; and the one that comes out of
-- the length block is the final state.
pub first_state : (f : Family) (from m : List ℕ) → state_at f from m (message_blocks f (length m)) ≡ from
unfolding state_at chain
first_state f from m =
    let none : message_blocks f (length m) - message_blocks f (length m) ≡ 0 = omega arith in
    ap (chain f from m) none

pub out_of_message : (f : Family) (from m : List ℕ) (n : ℕ) → n < message_blocks f (length m)
    → compression f false (state_at f from m (suc n)) (block_at f m (suc n)) ≡ state_at f from m n
unfolding state_at block_at chain
out_of_message f from m n h =
    let next : suc (message_blocks f (length m) - suc n) ≡ message_blocks f (length m) - n = omega arith in
    ap (chain f from m) next

pub out_of_length : (f : Family) (from m : List ℕ) → compression f true (state_at f from m 0) (block_at f m 0) ≡ final f from m
unfolding state_at block_at final
out_of_length f from m =
    let all : message_blocks f (length m) - 0 ≡ message_blocks f (length m) = omega arith in
    ap (λ (k : ℕ). compression f true (chain f from m k) (length_block f (length m))) all

-- Pairs that do not differ are equal, and equal ones do not differ.
alike_both : (p q : Bool) → not (p && q) ≡ false → (p ≡ true) × (q ≡ true)
alike_both true true e = (refl, refl)
alike_both true false e = cc
alike_both false q e = cc

pub alike : (s b s' b' : List ℕ) → unlike s b s' b' ≡ false → (s ≡ s') × (b ≡ b')
unfolding unlike
alike s b s' b' e =
    let both = alike_both (equal s s') (equal b b') e in
    (equal_true s s' both.0, equal_true b b' both.1)

pub like : (s b s' b' : List ℕ) → s ≡ s' → b ≡ b' → unlike s b s' b' ≡ false
unfolding unlike
like s b s' b' e h = rw (← e, ← h, equal_refl s, equal_refl b)

-- Messages that break no rule and whose pairs are equal at all common numbers are the same.
module _ (f : Family) (from a b : List ℕ) (wa : IsMessage a) (wb : IsMessage b) where
  pub all_alike : ((n : ℕ) → n < common f a b → differ_at f from a b n ≡ false) → a ≡ b
  unfolding common compressions differ_at block_at
  all_alike h = message_ext f a b wa.bits wb.bits lengths blocks
    where
      pairs : (n : ℕ) → n < common f a b → block_at f a n ≡ block_at f b n
      pairs n low = (alike (state_at f from a n) (block_at f a n) (state_at f from b n) (block_at f b n) (h n low)).1

      lengths : length a ≡ length b
      lengths = length_ext f (length a) (length b) wa.short wb.short (pairs 0 (omega arith))

      blocks : (k : ℕ) → k < message_blocks f (length a) → block f a k ≡ block f b k
      blocks k low =
          let here : message_blocks f (length a) - suc (message_blocks f (length a) - suc k) ≡ k = omega arith in
          let there : message_blocks f (length b) - suc (message_blocks f (length a) - suc k) ≡ k = rw (← lengths) here in
          let counts : message_blocks f (length a) ≡ message_blocks f (length b) = ap (message_blocks f) lengths in
          ap (block f a) (sym here) ∙ pairs (suc (message_blocks f (length a) - suc k)) (omega arith) ∙ ap (block f b) there

-- The test of a pair goes by the states first.
pub unlike_states : (s x t y : List ℕ) → equal s t ≡ false → true ≡ unlike s x t y
unfolding unlike
unlike_states s x t y e = rw e

pub unlike_blocks : (s x t y : List ℕ) → equal s t ≡ true → not (equal x y) ≡ unlike s x t y
unfolding unlike
unlike_blocks s x t y e = rw e
