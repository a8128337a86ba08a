-- A correction from the index of an earlier message goes on from a state that a fresh run reaches too, so it makes what the fresh run makes.
use mathlib.Core.Bool.{true, false}
use mathlib.Core.List.{List, ◌++◌}
use mathlib.Core.Path.{◌≡◌, refl, sym, ap, ◌∙◌}
use Prim.Native.Nat.{ℕ, zero, suc, ◌+◌, ◌*◌, ◌<◌, ◌≤◌}
use native.Mathlib.Decide.{dec_lt}
use native.Mathlib.Omega.{arith}
use borrow.Author.Tests.{eq-eqb, ne_eqb}
use lib.ListN.{length, take, drop, length-append}
use lib.Seq.{take_at, drop_at}
use Rattle.simd.specs.Basic.{Family, family_of, is_width, block_bytes, state_words, digest_bytes, bytes_of, words_of}
use Rattle.simd.specs.Constants.{start}
use Rattle.simd.specs.Message.{block}
use Rattle.simd.specs.Steps.{compression}
use Rattle.simd.specs.Hash.{chain, final_state, digest}
use Rattle.laws.proofs.LittleEndian.{words_bytes}
use Rattle.tail.proofs.Sizes.{chain_length}
use Rattle.form.specs.Head.{head_bytes, head}
use Rattle.form.proofs.Forming.{length_head}
use Rattle.hash.proofs.Feeding.{start_length}
use Rattle.checkpoints.specs.Index.{spacing, kept, states, index_of, kept_state, starts_at, start_state, states_from, final_from}
use Rattle.checkpoints.specs.Index.{corrected_index, corrected_digest}
use Rattle.hash.proofs.Fitting.{chain_fits, start_fits}
use Rattle.checkpoints.proofs.Counts.{starts_before, starts_within, starts_below, starts_first, starts_in_blocks}
use Rattle.checkpoints.proofs.States.{length_states, same_states, later, from_first, final_from_lem, index_cut}

-- Two messages have the same states through the blocks that they have in common.
same_chain : (f : Family) (s m n : List ℕ) (b : ℕ) → ((j : ℕ) → j < b → block f m j ≡ block f n j) → (k : ℕ) → k ≤ b → chain f s m k ≡ chain f s n k
unfolding chain
same_chain f s m n b same zero within = refl
same_chain f s m n b same (suc k) within =
    λ t. compression f false (same_chain f s m n b same k (omega arith) t) (same k (omega arith) t)

module _ (width : ℕ) (known : is_width width ≡ true) where
  abbrev f : Family
  f = family_of width

  -- A fresh index where kept state i begins: what stands before, and the state that is read there.
  module _ (m : List ℕ) (i : ℕ) where
    abbrev place : ℕ
    place = head_bytes + block_bytes f * i

    abbrev front : List ℕ
    front = head width (length m) ++ states f (start width) m i

    abbrev state : List ℕ
    state = chain f (start width) m (spacing * i)

    front_bytes : length front ≡ place
    front_bytes =
        omega (
          arith,
          length-append (head width (length m)) (states f (start width) m i),
          length_head width (length m),
          length_states f (start width) m (start_length width known) i,
        )

    before_state : i ≤ kept f (length m) → take place (index_of width m) ≡ front
    before_state within = ap (take place) (index_cut width m i within) ∙ take_at front (states_from f state m i) place front_bytes

    state_read : i < kept f (length m) → kept_state f (index_of width m) i ≡ state
    unfolding kept_state
    state_read below =
        let words : length state ≡ state_words f = chain_length f (start width) m (spacing * i) (start_length width known) in
        let behind : drop place (index_of width m) ≡ bytes_of state ++ later f state m i =
        ap (drop place) (index_cut width m i (omega arith)) ∙ drop_at front (states_from f state m i) place front_bytes ∙ from_first f state m i below in
        (λ t. words_of (sym words t) (behind t))
        ∙ words_bytes state (later f state m i) (chain_fits f (start width) m (spacing * i) (start_fits width known))

  module _ (earlier m : List ℕ) (size : length earlier ≡ length m) (b : ℕ) (same : (j : ℕ) → j < b → block f earlier j ≡ block f m j) where
    abbrev n : ℕ
    n = length m

    abbrev i : ℕ
    i = starts_at f n b

    -- The state that a correction starts from is m's own before that block, also where none is kept: there it is the starting state.
    started : start_state width (index_of width earlier) n b ≡ state m i
    unfolding start_state chain
    started = elim (dec_lt 0 (kept f n)) [
      | yes some ↦
          rw (ne_eqb (kept f n) 0 (λ none. omega arith))
          (state_read earlier i (rw size (starts_below f n b (λ none. omega arith)))
          ∙ same_chain f (start width) earlier m b same (spacing * i) (starts_before f n b))
      | no none ↦ rw (eq-eqb (kept f n) 0 (omega arith)) (ap (state m) (sym (starts_first f n b (omega arith))))
    ]

    pub fresh_index : corrected_index width (index_of width earlier) m b ≡ index_of width m
    unfolding corrected_index
    fresh_index =
        let within = starts_within f n b in
        let before = before_state earlier i (rw size within) in
        let same-before =
        same_states f (start width) earlier m i
        (λ j below. same_chain f (start width) earlier m b same (spacing * j) (omega (arith, starts_before f n b))) in
        (λ t. before t ++ states_from f (started t) m i)
        ∙ (λ t. (head width (size t) ++ same-before t) ++ states_from f (state m i) m i)
        ∙ sym (index_cut width m i within)

    pub fresh_digest : corrected_digest width (index_of width earlier) m b ≡ digest width m
    unfolding corrected_digest digest final_state
    fresh_digest =
        let ended = ap (λ (s : List ℕ). final_from f s m i) started ∙ final_from_lem f (start width) m i (starts_in_blocks f n b) in
        ap (λ (s : List ℕ). take (digest_bytes width) (bytes_of s)) ended
