-- The final state of a message, from the state after its first blocks: the bits of these, and the message of the bytes behind, are the whole.
use mathlib.Core.Bool.{Bool, true}
use mathlib.Core.List.{List}
use mathlib.Core.Path.{◌≡◌, ap, ◌∙◌}
use Prim.Native.Nat.{ℕ, ◌*◌, ◌-◌, ◌/◌, ◌%◌, ◌≤◌}
use lib.ListN.{length, take, drop}
use Rattle.simd.specs.Basic.{Family, family_of, is_width, block_bytes, state_words}
use Rattle.simd.specs.Constants.{start}
use Rattle.simd.specs.Message.{bits_of, message, message_blocks, length_block}
use Rattle.simd.specs.Steps.{compression}
use Rattle.simd.specs.Hash.{chain, final, final_state}
use Rattle.laws.proofs.Chain.{length_compression}
use Rattle.iteration.specs.Blocks.{absorbed}
use Rattle.bits.specs.Zero.{padded}
use Rattle.bits.proofs.Zeros.{take_padded}
use Rattle.tail.proofs.Sizes.{words_within, chain_length}
use Rattle.hash.proofs.Feeding.{length_message, start_length}
use Rattle.hash.proofs.Splitting.{chain_split}
use Rattle.pairs.specs.Lists.{equal}
use Rattle.pairs.proofs.PaddedLaws.{equal_padded}

module _ (width : ℕ) (known : is_width width ≡ true) (x : List ℕ) (m at : ℕ) (within : m ≤ 8 * length x)
    (whole : at % block_bytes (family_of width) ≡ 0) (before : 8 * at ≤ m) where
  abbrev f : Family
  f = family_of width

  abbrev from : List ℕ
  from = start width

  abbrev front : List ℕ
  front = bits_of (take at x)

  abbrev rest : List ℕ
  rest = message (drop at x) (m - 8 * at)

  -- The first blocks, whose bytes may be read from another message.
  pub front_state : {s t p : List ℕ} → s ≡ padded 32 from → p ≡ take at x → length p ≡ at
      → t ≡ padded 32 (absorbed f (take (state_words f) s) p (length p / block_bytes f)) → t ≡ padded 32 (chain f from front (at / block_bytes f))
  front_state {s} begin first size step =
      let words : take (state_words f) s ≡ from =
      ap (take (state_words f)) begin ∙ take_padded 32 (state_words f) from (start_length width known) (words_within f) in
      step ∙ rw (words, size, first)

  -- The rest and the length block.
  pub final_state_lem : {t u q : List ℕ} → t ≡ padded 32 (chain f from front (at / block_bytes f)) → q ≡ drop at x
      → u ≡ padded 32 (compression f true (chain f (take (state_words f) t) (message q (m - 8 * at)) (message_blocks f (m - 8 * at))) (length_block f m))
      → u ≡ padded 32 (final_state width (message x m))
  unfolding final_state final
  final_state_lem {t} reached read step =
      let words : take (state_words f) t ≡ chain f from front (at / block_bytes f) =
      ap (take (state_words f)) reached
      ∙ take_padded 32 (state_words f) _ (chain_length f from front (at / block_bytes f) (start_length width known)) (words_within f) in
      step ∙ rw (words, read, chain_split f from x m at within whole before, length_message x m within)

-- The final states, with zeros behind them, are equal exactly where they are without.
pub final_test : (width : ℕ) (a b : List ℕ) {s t : List ℕ} {r : Bool} → s ≡ padded 32 (final_state width a)
    → t ≡ padded 32 (final_state width b) → r ≡ equal s t → r ≡ equal (final_state width a) (final_state width b)
unfolding final_state final
final_test width a b es et test =
    test ∙ rw (es, et)
    (equal_padded 32 (state_words (family_of width)) _ _ (length_compression (family_of width) true _ _) (length_compression (family_of width) true _ _)
    (words_within (family_of width)))
