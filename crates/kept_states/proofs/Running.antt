-- A run of a message from its kept state i on: the full blocks, which are read where they lie, the block that is left and the length block are those
-- of the message without the blocks before.
use mathlib.Core.Bool.{true}
use mathlib.Core.List.{List}
use mathlib.Core.Path.{◌≡◌, sym, ap, ◌∙◌}
use Prim.Native.Nat.{ℕ, ◌+◌, ◌*◌, ◌-◌, ◌/◌, ◌%◌, ◌≤◌}
use native.Mathlib.Omega.{arith}
use lib.ListN.{length, take, drop, length-take, length-drop}
use lib.Seq.{drop_at, drop-drop}
use Rattle.simd.specs.Basic.{Family, block_bytes, block_bits, state_words}
use Rattle.simd.specs.Message.{bits_of, message, message_blocks, length_block}
use Rattle.simd.specs.Steps.{compression}
use Rattle.simd.specs.Hash.{chain}
use Rattle.laws.proofs.Bits.{length_bits_of}
use Rattle.iteration.specs.Blocks.{absorbed}
use Rattle.bits.specs.Zero.{padded}
use Rattle.bits.proofs.Parts.{back}
use Rattle.bits.proofs.Zeros.{take_padded}
use Rattle.tail.proofs.Sizes.{words_within, chain_length}
use Rattle.hash.proofs.Feeding.{length_message}
use Rattle.hash.proofs.Splitting.{message_split, chain_front, chain_split}
use Rattle.checkpoints.specs.Index.{kept, states, states_from, final_from}
use Rattle.checkpoints.proofs.States.{same_states}
use Rattle.kept_states.proofs.Counts.{before_state, more_bytes, bits_before, bits_left, bytes_behind, kept_behind, blocks_behind}
use Rattle.kept_states.proofs.Counts.{whole_bytes, whole_part}

module _ (f : Family) (s bytes : List ℕ) (n i : ℕ) (within : n ≤ 8 * length bytes) (started : 16 * i ≤ n / block_bits f) where
  abbrev from : ℕ
  from = block_bytes f * (16 * i)

  abbrev middle : ℕ
  middle = block_bytes f * (n / block_bits f)

  abbrev number : ℕ
  number = n / block_bits f - 16 * i

  -- The bytes behind the blocks before, the bits that they hold, and their full blocks.
  abbrev rest : List ℕ
  rest = drop from bytes

  abbrev left : ℕ
  left = n - 8 * from

  abbrev blocks : List ℕ
  blocks = take (middle - from) rest

  rest_within : left ≤ 8 * length rest
  rest_within = omega (arith, length-drop from bytes)

  rest_message : drop (block_bits f * (16 * i)) (message bytes n) ≡ message rest left
  rest_message =
      let front : length (bits_of (take from bytes)) ≡ block_bits f * (16 * i) =
      omega (arith, length_bits_of (take from bytes), length-take from bytes, bits_before n i f started) in
      ap (drop (block_bits f * (16 * i))) (message_split bytes n from within (bits_before n i f started))
      ∙ drop_at (bits_of (take from bytes)) (message rest left) (block_bits f * (16 * i)) front

  whole : (middle - from) % block_bytes f ≡ 0
  whole = ap (λ (b : ℕ). b % block_bytes f) (bytes_behind n i f) ∙ whole_part f number

  inside : 8 * (middle - from) ≤ left
  inside = omega (arith, bits_left n i f)

  numbered : (middle - from) / block_bytes f ≡ number
  numbered = ap (λ (b : ℕ). b / block_bytes f) (bytes_behind n i f) ∙ whole_bytes f number

  size : length (message bytes n) ≡ n
  size = length_message bytes n within

  kept_states : {out : List ℕ} → out ≡ states f s (bits_of blocks) ((number + 15) / 16) → out ≡ states_from f s (message bytes n) i
  unfolding states_from
  kept_states wrote =
      wrote
      ∙ same_states f s (bits_of blocks) (message rest left) ((number + 15) / 16)
      (λ j below.
      chain_front f s rest left (middle - from) rest_within whole inside (16 * j)
      (omega (arith, before_state f j number below, bytes_behind n i f)))
      ∙ (λ t. states f s (sym rest_message t) ((kept_behind n i f ∙ ap (λ (m : ℕ). kept f m - i) (sym size)) t))

  final_state_lem : length s ≡ state_words f → {t u : List ℕ} → t ≡ padded 32 (absorbed f s blocks number)
      → u ≡ padded 32 (compression f true
      (chain f (take (state_words f) t) (message (take (length bytes - middle) (drop middle bytes)) (n - 8 * middle)) (message_blocks f (n - 8 * middle)))
      (length_block f n))
      → u ≡ padded 32 (final_from f s (message bytes n) i)
  unfolding final_from
  final_state_lem long {t} reached concluded =
      let words : take (state_words f) t ≡ chain f s (bits_of blocks) ((middle - from) / block_bytes f) =
      ap (take (state_words f)) reached
      ∙ take_padded 32 (state_words f) _ (chain_length f s (bits_of blocks) number long) (words_within f)
      ∙ ap (chain f s (bits_of blocks)) (sym numbered) in
      let place : from + (middle - from) ≡ middle = omega (arith, more_bytes f (16 * i) (n / block_bits f) started) in
      let behind : take (length bytes - middle) (drop middle bytes) ≡ drop (middle - from) rest =
      back middle bytes ∙ ap (λ (k : ℕ). drop k bytes) (sym place) ∙ sym (drop-drop (middle - from) from bytes) in
      let bits : n - 8 * middle ≡ left - 8 * (middle - from) = omega (arith, place) in
      let all = chain_split f s rest left (middle - from) rest_within whole inside in
      let count : message_blocks f left ≡ message_blocks f (length (message bytes n)) - 16 * i =
      blocks_behind n i f started ∙ ap (λ (m : ℕ). message_blocks f m - 16 * i) (sym size) in
      concluded
      ∙ (λ j. padded 32 (compression f true (chain f (words j) (message (behind j) (bits j)) (message_blocks f (bits j))) (length_block f (sym size j))))
      ∙ (λ j. padded 32 (compression f true (all j) (length_block f (length (message bytes n)))))
      ∙ (λ j. padded 32 (compression f true (chain f s (sym rest_message j) (count j)) (length_block f (length (message bytes n)))))

  -- The same with the numbers that the code has worked out.
  module _ {size full : ℕ} (sized : size ≡ block_bytes f) (counted : full ≡ n / block_bits f) where
    pub states_run : {out : List ℕ}
        → out ≡ states f s (bits_of (take (size * full - size * (16 * i)) (drop (size * (16 * i)) bytes))) ((full - 16 * i + 15) / 16)
        → out ≡ states_from f s (message bytes n) i
    states_run wrote = kept_states (rw (sized, counted) at wrote)

    pub final_run : length s ≡ state_words f → {t u : List ℕ}
        → t ≡ padded 32 (absorbed f s (take (size * full - size * (16 * i)) (drop (size * (16 * i)) bytes)) (full - 16 * i))
        → u ≡ padded 32 (compression f true
        (chain f (take (state_words f) t) (message (take (length bytes - size * full) (drop (size * full) bytes)) (n - 8 * (size * full)))
        (message_blocks f (n - 8 * (size * full))))
        (length_block f n))
        → u ≡ padded 32 (final_from f s (message bytes n) i)
    final_run long reached concluded = final_state_lem long (rw (sized, counted) at reached) (rw (sized, counted) at concluded)
