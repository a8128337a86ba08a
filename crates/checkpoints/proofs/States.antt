-- Kept states, one behind the other: where each begins, and what follows it.
use mathlib.Core.Bool.{true}
use mathlib.Core.List.{List, ◌++◌, append_assoc, append-nil}
use mathlib.Core.Path.{◌≡◌, refl, sym, ap, ◌∙◌}
use Prim.Native.Nat.{ℕ, zero, suc, ◌+◌, ◌*◌, ◌-◌, ◌<◌, ◌≤◌}
use native.Mathlib.Nat.{add-zero, add-suc}
use native.Mathlib.Omega.{arith}
use lib.ListN.{length, drop, length-append}
use Rattle.simd.specs.Basic.{Family, family_of, block_bytes, block_bits, state_words, bytes_of}
use Rattle.simd.specs.Constants.{start}
use Rattle.simd.specs.Message.{message_blocks, length_block}
use Rattle.simd.specs.Steps.{compression}
use Rattle.simd.specs.Hash.{chain, final}
use Rattle.laws.proofs.Chain.{chain_add}
use Rattle.laws.proofs.LittleEndian.{length_bytes_of}
use Rattle.tail.proofs.Sizes.{chain_length}
use Rattle.form.specs.Head.{head}
use Rattle.checkpoints.specs.Index.{spacing, kept, states, index_of, states_from, final_from}

module _ (f : Family) (s m : List ℕ) where
  pub length_states : length s ≡ state_words f → (k : ℕ) → length (states f s m k) ≡ block_bytes f * k
  unfolding states
  length_states long zero = omega arith
  length_states long (suc k) =
      omega (
        arith,
        length-append (states f s m k) (bytes_of (chain f s m (spacing * k))),
        length_states long k,
        length_bytes_of (chain f s m (spacing * k)),
        chain_length f s m (spacing * k) long,
      )

  -- The states from state i on are those of the message behind, from that state.
  states_add : (i k : ℕ) → states f s m (i + k) ≡ states f s m i ++ states f (chain f s m (spacing * i)) (drop (block_bits f * (spacing * i)) m) k
  unfolding states
  states_add i zero = rw add-zero (sym (append-nil (states f s m i)))
  states_add i (suc k) =
      let rest = drop (block_bits f * (spacing * i)) m in
      let from = chain f s m (spacing * i) in
      let place : spacing * (i + k) ≡ spacing * i + spacing * k = omega arith in
      let last : chain f s m (spacing * (i + k)) ≡ chain f from rest (spacing * k) =
      ap (chain f s m) place ∙ chain_add f s m (spacing * i) (spacing * k) in
      rw add-suc
      ((λ t. states_add i k t ++ bytes_of (last t)) ∙ append_assoc (states f s m i) (states f from rest k) (bytes_of (chain f from rest (spacing * k))))

  -- The first of all is the state that they go out from.
  states_first : (k : ℕ) → states f s m (1 + k) ≡ bytes_of s ++ states f (chain f s m spacing) (drop (block_bits f * spacing) m) k
  unfolding states chain
  states_first k = states_add 1 k

-- States that are kept of two messages with the same states at these places.
pub same_states : (f : Family) (s m n : List ℕ) (k : ℕ) → ((j : ℕ) → j < k → chain f s m (spacing * j) ≡ chain f s n (spacing * j))
    → states f s m k ≡ states f s n k
unfolding states
same_states f s m n zero same = refl
same_states f s m n (suc k) same =
    let before = same_states f s m n k (λ j below. same j (omega arith)) in
    λ t. before t ++ bytes_of (same k (omega arith) t)

-- A run from state i on, with s as that state: its first state is s, and the final state is that of the whole message where s is the message's.
module _ (f : Family) (s m : List ℕ) (i : ℕ) where
  abbrev rest : List ℕ
  rest = drop (block_bits f * (spacing * i)) m

  -- What follows its first state.
  pub later : List ℕ
  later = states f (chain f s rest spacing) (drop (block_bits f * spacing) rest) (kept f (length m) - i - 1)

  pub from_first : i < kept f (length m) → states_from f s m i ≡ bytes_of s ++ later
  unfolding states_from later
  from_first below =
      let more : kept f (length m) - i ≡ 1 + (kept f (length m) - i - 1) = omega arith in
      ap (states f s rest) more ∙ states_first f s rest (kept f (length m) - i - 1)

  pub final_from_lem : spacing * i ≤ message_blocks f (length m) → final_from f (chain f s m (spacing * i)) m i ≡ final f s m
  unfolding final_from final
  final_from_lem within =
      let all : spacing * i + (message_blocks f (length m) - spacing * i) ≡ message_blocks f (length m) = omega arith in
      ap (λ (c : List ℕ). compression f true c (length_block f (length m)))
      (sym (chain_add f s m (spacing * i) (message_blocks f (length m) - spacing * i)) ∙ ap (chain f s m) all)

-- An index cut at kept state i.
pub index_cut : (width : ℕ) (m : List ℕ) (i : ℕ) → i ≤ kept (family_of width) (length m)
    → index_of width m
    ≡ (head width (length m) ++ states (family_of width) (start width) m i)
    ++ states_from (family_of width) (chain (family_of width) (start width) m (spacing * i)) m i
unfolding index_of states_from
index_cut width m i within =
    let f = family_of width in
    let front = head width (length m) in
    let k = kept f (length m) in
    let all : k ≡ i + (k - i) = omega arith in
    ap (λ (l : List ℕ). front ++ l) (ap (states f (start width) m) all ∙ states_add f (start width) m i (k - i))
    ∙ sym (append_assoc front (states f (start width) m i)
    (states f (chain f (start width) m (spacing * i)) (drop (block_bits f * (spacing * i)) m) (k - i)))
