-- A correction from any index that fits, whatever its states are: the bytes up to the state that it starts at stay, that state is written again as it
-- was read, and the size stays too.
use mathlib.Core.List.{List, ◌++◌, append_assoc, append-nil}
use mathlib.Core.Path.{◌≡◌, sym, ap, ◌∙◌}
use Prim.Native.Nat.{ℕ, ◌+◌, ◌*◌, ◌-◌, ◌<◌, ◌≤◌}
use native.Mathlib.Decide.{dec_lt}
use native.Mathlib.Omega.{arith}
use borrow.Author.Tests.{ne_eqb}
use lib.ListN.{length, get_or, take, drop, length-append, length-take, length-drop}
use lib.Seq.{take_all, take_at, take-add, take-take, take-append-le, get_or-drop}
use Rattle.simd.specs.Basic.{Family, family_of, block_bytes, block_bits, state_words, bytes_of}
use Rattle.laws.proofs.LittleEndian.{length_words_of, bytes_words}
use Rattle.form.specs.Head.{head_bytes}
use Rattle.checkpoints.specs.Index.{spacing, kept, states, kept_state, starts_at, start_state, states_from, corrected_index}
use Rattle.checkpoints.proofs.Counts.{starts_within, starts_below, bytes_split}
use Rattle.checkpoints.proofs.States.{length_states, later, from_first}
use Rattle.checkpoints.proofs.Heads.{Fit, fit_again}

module _ (width : ℕ) (old m : List ℕ) (b : ℕ) (shape : Fit width (length m) old) where
  abbrev f : Family
  f = family_of width

  abbrev n : ℕ
  n = length m

  abbrev i : ℕ
  i = starts_at f n b

  -- The bytes before the state that it starts at, and the message behind the blocks before it.
  abbrev place : ℕ
  place = head_bytes + block_bytes f * i

  abbrev rest : List ℕ
  rest = drop (block_bits f * (spacing * i)) m

  -- The states before that one, and those from it on, are all that the old index has.
  within : block_bytes f * i + block_bytes f * (kept f n - i) ≡ block_bytes f * kept f n
  within = bytes_split f i (kept f n) (starts_within f n b)

  before : length (take place old) ≡ place
  before = omega (arith, length-take place old, shape.size, within)

  -- No state is kept: the new index is the old one, a head.
  none_kept : kept f n ≡ 0 → corrected_index width old m b ≡ old
  unfolding corrected_index states_from states
  none_kept none =
      let left : kept f n - i ≡ 0 = omega arith in
      (λ t. take place old ++ states f (start_state width old n b) rest (left t))
      ∙ append-nil (take place old)
      ∙ take_all place old (omega (arith, shape.size, within, ap (λ (k : ℕ). block_bytes f * k) left))

  -- Some are: the first state written is the one that it starts at.
  module _ (some : kept f n ≡ 0 → ⊥) where
    abbrev s : List ℕ
    s = kept_state f old i

    some_kept : corrected_index width old m b ≡ take place old ++ states_from f s m i
    unfolding corrected_index start_state
    some_kept = rw (ne_eqb (kept f n) 0 some)

    -- The old index holds it whole.
    state_room : place + block_bytes f ≤ length old
    state_room = omega (arith, shape.size, within, bytes_split f 1 (kept f n - i) (omega (arith, starts_below f n b some)))

    some_size : length (corrected_index width old m b) ≡ length old
    unfolding kept_state states_from
    some_size =
        let words = length_states f s rest (length_words_of (state_words f) (drop place old)) (kept f n - i) in
        ap length some_kept
        ∙ omega (arith, length-append (take place old) (states f s rest (kept f n - i)), before, words, shape.size, within)

    some_carried : ((j : ℕ) → get_or old j 0 < 256)
        → take (head_bytes + block_bytes f * (i + 1)) (corrected_index width old m b) ≡ take (head_bytes + block_bytes f * (i + 1)) old
    unfolding kept_state
    some_carried bytes =
        let next = head_bytes + block_bytes f * (i + 1) in
        let one_more : place + 4 * state_words f ≡ next = omega arith in
        let state : bytes_of s ≡ take (4 * state_words f) (drop place old) =
        bytes_words (state_words f) (drop place old) (λ j. rw get_or-drop (bytes (place + j))) (omega (arith, length-drop place old, state_room)) in
        let front : take place old ++ bytes_of s ≡ take next old =
        ap (λ (l : List ℕ). take place old ++ l) state ∙ sym (take-add place (4 * state_words f) old) ∙ ap (λ (k : ℕ). take k old) one_more in
        let whole : corrected_index width old m b ≡ take next old ++ later f s m i =
        some_kept
        ∙ ap (λ (l : List ℕ). take place old ++ l) (from_first f s m i (starts_below f n b some))
        ∙ sym (append_assoc (take place old) (bytes_of s) (later f s m i))
        ∙ ap (λ (l : List ℕ). l ++ later f s m i) front in
        ap (take next) whole
        ∙ take_at (take next old) (later f s m i) next (omega (arith, length-take next old, state_room))

  pub carried_over : ((j : ℕ) → get_or old j 0 < 256)
      → take (head_bytes + block_bytes f * (i + 1)) (corrected_index width old m b) ≡ take (head_bytes + block_bytes f * (i + 1)) old
  carried_over bytes = elim (dec_lt 0 (kept f n)) [
    | yes some ↦ some_carried (λ none. omega arith) bytes
    | no none ↦ ap (take (head_bytes + block_bytes f * (i + 1))) (none_kept (omega arith))
  ]

  same_size : length (corrected_index width old m b) ≡ length old
  same_size = elim (dec_lt 0 (kept f n)) [ yes some ↦ some_size (λ none. omega arith) | no none ↦ ap length (none_kept (omega arith)) ]

  same_head : take head_bytes (corrected_index width old m b) ≡ take head_bytes old
  unfolding corrected_index
  same_head =
      take-append-le head_bytes (take place old) (states_from f (start_state width old n b) m i) (omega (arith, before))
      ∙ take-take head_bytes place old (omega arith)

  pub corrected_fit : Fit width n (corrected_index width old m b)
  corrected_fit = fit_again shape same_size same_head
