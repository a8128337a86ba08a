-- A run over whole blocks that writes every 16th state. After k of them the states before block 0, 16, .., 16 (k - 1) are written, and all blocks
-- up to the next that is kept are compressed.
use mathlib.Core.List.{List, ◌++◌}
use mathlib.Core.Path.{◌≡◌, refl, sym, ap, ◌∙◌}
use Prim.Native.Nat.{ℕ, min, ◌+◌, ◌*◌, ◌-◌, ◌/◌, ◌<◌, ◌≤◌}
use native.Mathlib.Nat.{mul-zero, zero-min}
use native.Mathlib.Numerals.{add-one}
use native.Mathlib.Omega.{arith}
use native.Mathlib.Decide.{dec_lt}
use borrow.Rule.Slice.PartMut.{mid_of, put_mid}
use lib.Dec.{lit<}
use lib.ListN.{length, get_or, take, drop, length-take, length-drop}
use lib.Seq.{take_all, get_or-take, get_or-drop}
use Rattle.simd.specs.Basic.{Family, block_bytes, state_words, bytes_of}
use Rattle.simd.specs.Message.{bits_of}
use Rattle.simd.specs.Hash.{chain}
use Rattle.iteration.specs.Blocks.{absorbed}
use Rattle.laws.proofs.Bits.{get_d_take_past}
use Rattle.laws.proofs.LittleEndian.{length_bytes_of}
use Rattle.bits.specs.Zero.{padded}
use Rattle.bits.proofs.Parts.{part_size, put_length, put_front}
use Rattle.bits.proofs.Zeros.{take_padded}
use Rattle.tail.proofs.Absorbing.{absorbed_on}
use Rattle.tail.proofs.Sizes.{words_within, chain_length}
use Rattle.little_endian.proofs.Writing.{state_bytes}
use Rattle.checkpoints.specs.Index.{states}
use Rattle.kept_states.proofs.Counts.{more_bytes, whole_bytes, state_within}

module _ (f : Family) (s blocks : List ℕ) (full : ℕ) where
  pub record Kept (k : ℕ) (state out : List ℕ) : Type 0 where
    pub reached : state ≡ padded 32 (absorbed f s blocks (min (16 * k) full))
    pub size : length out ≡ block_bytes f * ((full + 15) / 16)
    pub put : take (block_bytes f * k) out ≡ states f s (bits_of blocks) k
    pub behind : 16 * k < full + 16

  pub kept_none : {state out : List ℕ} → state ≡ padded 32 s → length out ≡ block_bytes f * ((full + 15) / 16) → Kept 0 state out
  unfolding states chain
  kept_none begun long =
      record {
        reached = begun ∙ ap (λ (n : ℕ). padded 32 (absorbed f s blocks n)) (sym (zero-min full));
        size = long;
        put = rw (mul-zero (block_bytes f));
        behind = omega arith;
      }

  module _ (long : length s ≡ state_words f) (fits : (i : ℕ) → get_or blocks i 0 < 256) (whole : length blocks ≡ block_bytes f * full)
      {k : ℕ} {state out : List ℕ} (below : 16 * k < full) (kept : Kept k state out) where
    -- The state before block 16 k, and how many blocks are compressed behind it.
    abbrev words : List ℕ
    words = absorbed f s blocks (16 * k)

    abbrev count : ℕ
    count = min (full - 16 * k) 16

    words_long : length words ≡ state_words f
    words_long = chain_length f s (bits_of blocks) (16 * k) long

    held : state ≡ padded 32 words
    held =
        let all : min (16 * k) full ≡ 16 * k = omega arith in
        kept.reached ∙ ap (λ (n : ℕ). padded 32 (absorbed f s blocks n)) all

    abbrev from : ℕ
    from = block_bytes f * (16 * k)

    abbrev part : List ℕ
    part = take (from + block_bytes f * count - from) (drop from blocks)

    part_long : length part ≡ block_bytes f * count
    part_long =
        let room : block_bytes f * (16 * k + count) ≤ block_bytes f * full = more_bytes f (16 * k + count) full (omega arith) in
        omega (arith, length-take (from + block_bytes f * count - from) (drop from blocks), length-drop from blocks, room)

    -- What is written is that state.
    module _ {x : List ℕ} (wrote : x ≡ take (length (mid_of (block_bytes f * k) (block_bytes f * k + block_bytes f - block_bytes f * k) out)) (bytes_of state)) where
      room : block_bytes f * k + block_bytes f ≤ length out
      room = omega (arith, state_within f refl k full below, kept.size)

      written : x ≡ bytes_of words
      written =
          let bytes : length (bytes_of words) ≡ block_bytes f = omega (arith, length_bytes_of words, words_long) in
          wrote
          ∙ (λ i. take (part_size (block_bytes f * k) (block_bytes f) out room i) (bytes_of (held i)))
          ∙ state_bytes (block_bytes f) words (omega (arith, words_long)) (omega (arith, words_long, words_within f))
          ∙ take_all (block_bytes f) (bytes_of words) (omega (arith, bytes))

      fills : length x ≡ block_bytes f * k + block_bytes f - block_bytes f * k
      fills = ap length written ∙ omega (arith, length_bytes_of words, words_long)

      kept_more : {state' : List ℕ} → state' ≡ padded 32 (absorbed f (take (state_words f) state) part (length part / block_bytes f))
          → Kept (k + 1) state' (put_mid (block_bytes f * k) (block_bytes f * k + block_bytes f - block_bytes f * k) out x)
      unfolding states
      kept_more compressed =
          let end = block_bytes f * k + block_bytes f in
          let begun : take (state_words f) state ≡ words =
          ap (take (state_words f)) held ∙ take_padded 32 (state_words f) words words_long (words_within f) in
          let number : length part / block_bytes f ≡ count = ap (λ (n : ℕ). n / block_bytes f) part_long ∙ whole_bytes f count in
          let on = absorbed_on f s blocks part (16 * k) count fits
          (λ i. part_fits i)
          (λ i inside. get_or-take (from + block_bytes f * count - from) (drop from blocks) i 0 (omega (arith, inside)) ∙ get_or-drop from blocks i 0) in
          let next : 16 * k + count ≡ min (16 * (k + 1)) full = omega arith in
          let place : block_bytes f * (k + 1) ≡ end = omega arith in
          record {
            reached =
                compressed ∙ (λ i. padded 32 (absorbed f (begun i) part (number i)))
                ∙ ap (padded 32) (on ∙ ap (λ (n : ℕ). absorbed f s blocks n) next);
            size = put_length (block_bytes f * k) end out x (omega arith) room fills ∙ kept.size;
            put =
                rw (place, add-one k)
                (put_front (block_bytes f * k) end out x (states f s (bits_of blocks) k) (omega arith) room fills kept.put
                ∙ ap (λ (b : List ℕ). states f s (bits_of blocks) k ++ b) written);
            behind = omega arith;
          }
        where
          part_fits : (i : ℕ) → get_or part i 0 < 256
          part_fits i = elim (dec_lt i (from + block_bytes f * count - from)) [
            | yes inside ↦ rw (get_or-take (from + block_bytes f * count - from) (drop from blocks) i 0 inside, get_or-drop from blocks i 0) (fits (from + i))
            | no past ↦ rw (get_d_take_past (from + block_bytes f * count - from) (drop from blocks) i (omega arith)) (lit< tt)
          ]

    -- The same with the numbers that the code has worked out.
    pub kept_next : {size number : ℕ} {x state' : List ℕ} → size ≡ block_bytes f → number ≡ count
        → x ≡ take (length (mid_of (size * k) (size * k + size - size * k) out)) (bytes_of state)
        → state' ≡ padded 32 (absorbed f (take (state_words f) state)
        (take (size * (16 * k) + size * number - size * (16 * k)) (drop (size * (16 * k)) blocks))
        (length (take (size * (16 * k) + size * number - size * (16 * k)) (drop (size * (16 * k)) blocks)) / block_bytes f))
        → Kept (k + 1) state' (put_mid (size * k) (size * k + size - size * k) out x)
    kept_next sized numbered wrote compressed = rw sized (kept_more (rw sized at wrote) (rw (sized, numbered) at compressed))

  pub kept_all : {k : ℕ} {state out : List ℕ} → Kept k state out → full ≤ 16 * k
      → (state ≡ padded 32 (absorbed f s blocks full)) × (out ≡ states f s (bits_of blocks) ((full + 15) / 16))
  kept_all {k} {state} {out} kept end =
      let all : min (16 * k) full ≡ full = omega (arith, end) in
      let last : k ≡ (full + 15) / 16 = omega (arith, end, kept.behind) in (
        kept.reached ∙ ap (λ (n : ℕ). padded 32 (absorbed f s blocks n)) all,
        sym (take_all (block_bytes f * k) out (omega (arith, kept.size ∙ ap (λ (n : ℕ). block_bytes f * n) (sym last))))
            ∙ kept.put ∙ ap (states f s (bits_of blocks)) last,
      )
