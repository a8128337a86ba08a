-- The refusals in turn, and the digest from the state after the length block.
use mathlib.Core.Bool.{true, false, cond}
use mathlib.Core.List.{List, ◌++◌}
use mathlib.Core.Path.{◌≡◌, sym, ap, ◌∙◌}
use Prim.Native.Nat.{ℕ, ◌-◌, ◌<◌, ◌≤◌}
use native.Mathlib.Omega.{arith}
use borrow.Author.Tests.{leb-true, lt-leb, le-leb}
use borrow.Rule.Slice.PartMut.{post_of}
use lib.Dec.{leb}
use lib.ListN.{length, take}
use Rattle.simd.specs.Basic.{Family, family_of, is_width, state_words, bytes_of, digest_bytes}
use Rattle.simd.specs.Constants.{start}
use Rattle.simd.specs.Message.{message, message_blocks, length_block}
use Rattle.simd.specs.Steps.{compression}
use Rattle.simd.specs.Hash.{chain, final, final_state, digest}
use Rattle.laws.proofs.Chain.{length_compression}
use Rattle.bits.specs.Zero.{padded}
use Rattle.bits.proofs.Zeros.{take_padded}
use Rattle.tail.proofs.Sizes.{words_within}
use Rattle.hash.specs.Open.{piece_refusal, written}
use Rattle.hash.proofs.Feeding.{length_message, start_length}
use Rattle.hash.proofs.Answers.{state_written}
use Rattle.hash.proofs.Refusing.{first_refused, first_accepted, passed, both_passed, Accepted as MessageAccepted, accepted as message-accepted}
use Rattle.digest.specs.Call.{digest_refusal}

module _ (width : ℕ) (bytes : List ℕ) (count room : ℕ) where
  pub unknown_width : is_width width ≡ false → 1 ≡ digest_refusal width bytes count room
  unfolding digest_refusal
  unknown_width unknown = rw unknown

  module _ (known : is_width width ≡ true) (r : ℕ) (same : r ≡ piece_refusal 0 bytes count) where
    pub message_refused : (r ≡ 0 → ⊥) → r ≡ digest_refusal width bytes count room
    unfolding digest_refusal
    message_refused some = rw known (same ∙ sym (first_refused (piece_refusal 0 bytes count) _ (λ e. some (same ∙ e))))

    pub room_short : r ≡ 0 → room < digest_bytes width → 6 ≡ digest_refusal width bytes count room
    unfolding digest_refusal
    room_short none short =
        let accepted = first_accepted (piece_refusal 0 bytes count) (cond (leb (digest_bytes width) room) 0 6) (sym same ∙ none) in
        rw (known, accepted, lt-leb (digest_bytes width) room short)

    pub room_enough : r ≡ 0 → digest_bytes width ≤ room → 0 ≡ digest_refusal width bytes count room
    unfolding digest_refusal
    room_enough none enough =
        let accepted = first_accepted (piece_refusal 0 bytes count) (cond (leb (digest_bytes width) room) 0 6) (sym same ∙ none) in
        rw (known, accepted, le-leb (digest_bytes width) room enough)

-- What holds of a call that is not refused.
pub record Accepted (width : ℕ) (bytes : List ℕ) (count room : ℕ) : Type 0 where
  pub known : is_width width ≡ true
  pub whole : MessageAccepted 0 bytes count
  pub enough : digest_bytes width ≤ room

pub accepted : (width : ℕ) (bytes : List ℕ) (count room r : ℕ) → r ≡ digest_refusal width bytes count room → r ≡ 0 → Accepted width bytes count room
unfolding digest_refusal
accepted width bytes count room r same none =
    let one = passed (is_width width) _ 0 (sym same ∙ none) in
    let two = both_passed (piece_refusal 0 bytes count) (cond (leb (digest_bytes width) room) 0 6) one.1 in
    record {
      known = one.0;
      whole = message-accepted 0 bytes count two.0;
      enough = leb-true (digest_bytes width) room (passed (leb (digest_bytes width) room) 0 5 two.1).0;
    }

module _ (width : ℕ) (bytes : List ℕ) (count room : ℕ) (a : Accepted width bytes count room) where
  abbrev f : Family
  f = family_of width

  -- The state after all blocks, from a given one.
  abbrev concluded : List ℕ → List ℕ
  concluded state =
      padded 32 (compression f true (chain f (take (state_words f) state) (message bytes count) (message_blocks f count)) (length_block f count))

  -- From the starting state it is the final state.
  finished : (state state' : List ℕ) → state ≡ padded 32 (start width) → state' ≡ concluded state
      → state' ≡ padded 32 (final_state width (message bytes count))
  unfolding final_state final
  finished state state' begun stated =
      let first : take (state_words f) state ≡ start width =
      ap (take (state_words f)) begun ∙ take_padded 32 (state_words f) (start width) (start_length width a.known) (words_within f) in
      let size = sym (length_message bytes count a.whole.within) in
      stated ∙ λ i. padded 32 (compression f true (chain f (first i) (message bytes count) (message_blocks f (size i))) (length_block f (size i)))

  -- What is written.
  pub digest_written : (k : ℕ) → k ≡ digest_bytes width → (out state state' front : List ℕ) → length out ≡ room → state ≡ padded 32 (start width)
      → state' ≡ concluded state
      → front ≡ take (length (take (k - 0) out)) (bytes_of state')
      → front ++ post_of 0 (k - 0) out ≡ written 0 (digest width (message bytes count)) out
  unfolding digest final_state final
  digest_written k sized out state state' front long begun stated wrote =
      let m = message bytes count in
      let n = length m in
      let words = length_compression f true (chain f (start width) m (message_blocks f n)) (length_block f n) in
      state_written width a.known (final_state width m) out words (omega (arith, a.enough, long)) sized (finished state state' begun stated) wrote
