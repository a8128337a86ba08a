-- Laws of a hash that has been fed.
use mathlib.Core.Bool.{true}
use mathlib.Core.List.{List, [], ◌++◌, append_assoc, append-nil}
use mathlib.Core.Path.{◌≡◌, refl, sym, ap, ◌∙◌}
use Prim.Native.Nat.{ℕ, ◌+◌, ◌*◌, ◌-◌, ◌/◌, ◌%◌, ◌<◌, ◌≤◌}
use native.Mathlib.Nat.{add-zero, mul-zero}
use native.Mathlib.Omega.{arith}
use lib.Dec.{lit<}
use native.Mathlib.Decide.{dec_lt}
use lib.ListN.{length, get_or, drop, length-drop, length-append, get_or-eq_default}
use lib.Seq.{drop-append-le, drop-drop}
use Rattle.simd.specs.Basic.{Family, small, large, block_bits, state_words, table}
use Rattle.simd.specs.Message.{byte_of, message_blocks, length_block}
use Rattle.simd.specs.Steps.{compression}
use Rattle.simd.specs.Hash.{chain}
use Rattle.laws.proofs.Table.{length_table, get_d_table}
use Rattle.laws.proofs.Bits.{Bits, byte_lt, bits_append, bits_drop}
use Rattle.laws.proofs.Chain.{chain_add, chain_append, blocks_split}
use Rattle.tail.proofs.Sizes.{chain_length}
use Rattle.bits.specs.Zero.{padded}
use Rattle.hash.specs.Open.{family, used, reached, pending, holding, legal, full_blocks, advanced, final_of}
use Rattle.hash.specs.declared.Hash.{Hash}
use Rattle.hash.proofs.Holding.{Sized, length_reached, legal_width}
use Rattle.hash_theorems.proofs.Held.{Long, length_pending, bits_pending, held_state, held_tail, held_legal, holds}

-- Full blocks and the rest: n bits before, of which n % block size are in the tail, and l more.
pub rest_bits : (f : Family) (n l : ℕ) → n % block_bits f + l - block_bits f * ((n % block_bits f + l) / block_bits f) ≡ (n + l) % block_bits f
rest_bits small n l = omega arith
rest_bits large n l = omega arith

pub full_within : (f : Family) (n : ℕ) → block_bits f * (n / block_bits f) ≤ n
full_within small n = omega arith
full_within large n = omega arith

pub full_add : (f : Family) (n a b : ℕ) → (n % block_bits f + (a + b)) / block_bits f
    ≡ (n % block_bits f + a) / block_bits f + ((n + a) % block_bits f + b) / block_bits f
full_add small n a b = omega arith
full_add large n a b = omega arith

pub none_full : (f : Family) (n : ℕ) → (n % block_bits f + 0) / block_bits f ≡ 0
none_full small n = omega arith
none_full large n = omega arith

pub held_sized : (width n : ℕ) (state tail : List ℕ) → Bits tail → Sized (holding width n state tail)
unfolding holding padded
held_sized width n state tail bit =
    record { words = length_table 32 (λ i. get_or state i 0); bytes = length_table 128 (byte_of tail); byte_fits = fits }
  where
    fits : (i : ℕ) → get_or (table 128 (byte_of tail)) i 0 < 256
    fits i = elim (dec_lt i 128) [
      | yes below ↦ rw (get_d_table 128 (byte_of tail) i 0 below) (byte_lt tail i bit)
      | no past ↦ rw (get_or-eq_default (table 128 (byte_of tail)) 0 {n = i} (omega (arith, length_table 128 (byte_of tail)))) (lit< tt)
    ]

module _ (h : Hash) (s : Long h) (m : List ℕ) where
  pub joined_length : length (pending h ++ m) ≡ used h + length m
  joined_length = omega (arith, length-append (pending h) m, length_pending h s.bytes)

  abbrev next : List ℕ
  next = chain (family h) (reached h) (pending h ++ m) (full_blocks h (length m))

  state_length : length next ≡ state_words (family h)
  state_length = chain_length (family h) (reached h) (pending h ++ m) (full_blocks h (length m)) (length_reached h s.words)

  rest : List ℕ
  rest = drop (block_bits (family h) * full_blocks h (length m)) (pending h ++ m)

  rest_length : length rest ≡ (h.bits + length m) % block_bits (family h)
  unfolding rest full_blocks
  rest_length =
      length-drop (block_bits (family h) * full_blocks h (length m)) (pending h ++ m)
      ∙ ap (λ (n : ℕ). n - block_bits (family h) * ((used h + length m) / block_bits (family h))) joined_length
      ∙ rest_bits (family h) h.bits (length m)

  module _ (bit : Bits m) where
    rest_bit : Bits rest
    unfolding rest
    rest_bit = bits_drop (block_bits (family h) * full_blocks h (length m)) (pending h ++ m) (bits_append (pending h) m (bits_pending h) bit)

    pub advanced_state : reached (advanced h m) ≡ chain (family h) (reached h) (pending h ++ m) (full_blocks h (length m))
    unfolding advanced rest
    advanced_state = held_state h.width (h.bits + length m) next rest state_length rest_length rest_bit

    pub advanced_tail : pending (advanced h m) ≡ drop (block_bits (family h) * full_blocks h (length m)) (pending h ++ m)
    unfolding advanced rest
    advanced_tail = held_tail h.width (h.bits + length m) next rest state_length rest_length rest_bit

    pub advanced_legal : legal h ≡ true → legal (advanced h m) ≡ true
    unfolding advanced rest
    advanced_legal good = held_legal h.width (h.bits + length m) next rest state_length rest_length rest_bit (legal_width h good)

    pub advanced_sized : Sized (advanced h m)
    unfolding advanced rest
    advanced_sized = held_sized h.width (h.bits + length m) next rest rest_bit

pub advanced_bits : (h : Hash) (m : List ℕ) → (advanced h m).bits ≡ h.bits + length m
unfolding advanced holding
advanced_bits h m = refl

-- Blocks made full by bits fed in two parts.
pub blocks_append : (h : Hash) (m n : List ℕ) → full_blocks h (length (m ++ n)) ≡ full_blocks h (length m) + full_blocks (advanced h m) (length n)
unfolding full_blocks advanced holding
blocks_append h m n = rw length-append (full_add (family h) h.bits (length m) (length n))

holding_path : (width n n' : ℕ) (s s' t t' : List ℕ) → n ≡ n' → s ≡ s' → t ≡ t' → holding width n s t ≡ holding width n' s' t'
holding_path width n n' s s' t t' p q r = λ i. holding width (p i) (q i) (r i)

-- Feeding bits and then more bits is feeding them joined.
module _ (h : Hash) (s : Long h) (m n : List ℕ) (bit : Bits m) where
  front : block_bits (family h) * full_blocks h (length m) ≤ length (pending h ++ m)
  unfolding full_blocks
  front = omega (arith, full_within (family h) (used h + length m), joined_length h s m)

  behind : pending (advanced h m) ++ n ≡ drop (block_bits (family h) * full_blocks h (length m)) (pending h ++ m ++ n)
  behind =
      ap (λ (l : List ℕ). l ++ n) (advanced_tail h s m bit)
      ∙ sym (drop-append-le (block_bits (family h) * full_blocks h (length m)) (pending h ++ m) n front)

  pub states : chain (family h) (reached (advanced h m)) (pending (advanced h m) ++ n) (full_blocks (advanced h m) (length n))
      ≡ chain (family h) (reached h) (pending h ++ (m ++ n)) (full_blocks h (length (m ++ n)))
  states =
      let first : chain (family h) (reached h) (pending h ++ m ++ n) (full_blocks h (length m)) ≡ reached (advanced h m) =
      chain_append (family h) (reached h) (pending h ++ m) n (full_blocks h (length m)) front ∙ sym (advanced_state h s m bit) in
      rw (blocks_append h m n, ← append_assoc (pending h) m n, behind, ← first)
      (sym (chain_add (family h) (reached h) (pending h ++ m ++ n) (full_blocks h (length m)) (full_blocks (advanced h m) (length n))))

  pub tails : drop (block_bits (family h) * full_blocks (advanced h m) (length n)) (pending (advanced h m) ++ n)
      ≡ drop (block_bits (family h) * full_blocks h (length (m ++ n))) (pending h ++ (m ++ n))
  tails =
      let places : block_bits (family h) * full_blocks h (length m) + block_bits (family h) * full_blocks (advanced h m) (length n)
      ≡ block_bits (family h) * (full_blocks h (length m) + full_blocks (advanced h m) (length n)) = omega arith in
      rw (blocks_append h m n, ← append_assoc (pending h) m n, behind, drop-drop, places)

  pub advanced_append : advanced (advanced h m) n ≡ advanced h (m ++ n)
  unfolding advanced holding
  advanced_append =
      let total : h.bits + length m + length n ≡ h.bits + length (m ++ n) = omega (arith, length-append m n) in
      holding_path h.width _ _ _ _ _ _ total states tails

-- Feeding no bits.
pub advanced_none : (h : Hash) → Sized h → legal h ≡ true → advanced h [] ≡ h
unfolding advanced full_blocks chain
advanced_none h v good =
    let f = family h in
    let none = none_full f h.bits in
    let state : chain f (reached h) (pending h ++ []) ((used h + 0) / block_bits f) ≡ reached h =
    ap (λ (k : ℕ). chain f (reached h) (pending h ++ []) k) none in
    let tail : drop (block_bits f * ((used h + 0) / block_bits f)) (pending h ++ []) ≡ pending h =
    ap (λ (k : ℕ). drop (block_bits f * k) (pending h ++ [])) none
    ∙ ap (λ (k : ℕ). drop k (pending h ++ [])) (mul-zero (block_bits f))
    ∙ append-nil (pending h) in
    holding_path h.width _ _ _ _ _ _ (add-zero h.bits) state tail ∙ sym (holds h v good)

pub mod_used : (f : Family) (n l : ℕ) → (n % block_bits f + l) % block_bits f ≡ (n + l) % block_bits f
mod_used small n l = omega arith
mod_used large n l = omega arith

-- The message blocks of the tail and m together.
pub message_blocks_lem : (h : Hash) → Long h → (m : List ℕ)
    → message_blocks (family h) (length (pending h ++ m))
    ≡ full_blocks h (length m) + message_blocks (family h) ((h.bits + length m) % block_bits (family h))
unfolding full_blocks
message_blocks_lem h s m =
    rw (joined_length h s m, ← mod_used (family h) h.bits (length m)) (blocks_split (family h) (used h + length m))

-- The state after the last message block and the length block, from the state and the tail before m.
pub final_advanced : (h : Hash) → Long h → (m : List ℕ) → Bits m
    → final_of (advanced h m)
    ≡ compression (family h) true (chain (family h) (reached h) (pending h ++ m) (message_blocks (family h) (length (pending h ++ m))))
    (length_block (family h) (h.bits + length m))
unfolding final_of advanced holding
final_advanced h s m bit =
    let f = family h in
    let k = full_blocks h (length m) in
    let q = message_blocks f ((h.bits + length m) % block_bits f) in
    let count : k + q ≡ message_blocks f (length (pending h ++ m)) = sym (message_blocks_lem h s m) in
    let states : chain f (reached (advanced h m)) (pending (advanced h m)) q
    ≡ chain f (reached h) (pending h ++ m) (message_blocks f (length (pending h ++ m))) =
    (λ i. chain f (advanced_state h s m bit i) (advanced_tail h s m bit i) q)
    ∙ sym (chain_add f (reached h) (pending h ++ m) k q)
    ∙ ap (λ (b : ℕ). chain f (reached h) (pending h ++ m) b) count in
    ap (λ (t : List ℕ). compression f true t (length_block f (h.bits + length m))) states
