-- The two calls undo each other on the bytes that they are given, for both families: back after forward is the start, forward after back is
-- the end, and no two starts reach one end.
use mathlib.Core.Bool.{Bool}
use mathlib.Core.List.{List, [], ◌++◌, append_assoc, append-nil}
use mathlib.Core.Path.{◌≡◌, refl, sym, ap, ◌∙◌}
use Prim.Native.Nat.{ℕ, ◌+◌, ◌*◌, ◌^◌, ◌<◌, ◌≤◌}
use native.Mathlib.Omega.{arith}
use native.Mathlib.Decide.{dec_lt}
use borrow.Author.Tests.{eq-eqb, le-leb}
use lib.Dec.{lit<}
use lib.ListN.{length, get_or, take, drop, length-take, length-drop, length-append, get_or-eq_default}
use lib.Seq.{take-add, take_all, take_at, drop_at, get_or-take, get_or-drop}
use Rattle.simd.specs.Basic.{Family, rows, state_words, block_bytes, family_of, words_of, bytes_of}
use Rattle.simd.specs.Expansion.{expanded}
use Rattle.simd.specs.Steps.{State, words, state, steps}
use Rattle.laws.proofs.Bounds.{below_append}
use Rattle.laws.proofs.LittleEndian.{length_bytes_of, length_words_of, words_bytes, bytes_words, words_of_fit, get_d_bytes_of}
use Rattle.unsteps.specs.Unstep.{unsteps, Column, Valid}
use Rattle.unsteps.proofs.Inverse.{steps_valid, unsteps_valid, unsteps_steps, steps_unsteps}
use Rattle.stepping.specs.Call.{size_refusal, steps_refusal, forward, backward, steps_output}
use Rattle.stepping.proofs.Calls.{sizes, width_known, accepted}

-- The bytes of a state.
pub record StateBytes (f : Family) (l : List ℕ) : Type 0 where
  pub size : length l ≡ block_bytes f
  pub byte : (i : ℕ) → get_or l i 0 < 256

-- Four parts of r words each, put together again.
together : (r : ℕ) (l : List ℕ) → length l ≡ 4 * r → take r l ++ take r (drop r l) ++ take r (drop (2 * r) l) ++ take r (drop (3 * r) l) ≡ l
together r l size =
    let two : r + r ≡ 2 * r = omega arith in
    let three : 2 * r + r ≡ 3 * r = omega arith in
    ap (λ p. p ++ take r (drop (2 * r) l) ++ take r (drop (3 * r) l)) (sym (take-add r r l) ∙ ap (λ n. take n l) two)
    ∙ ap (λ p. p ++ take r (drop (3 * r) l)) (sym (take-add (2 * r) r l) ∙ ap (λ n. take n l) three)
    ∙ sym (take-add (3 * r) r l)
    ∙ take_all (3 * r + r) l (omega arith)

-- Words of a column, also past its end.
column_word : (f : Family) (l : List ℕ) → Column f l → (i : ℕ) → get_or l i 0 < 2 ^ 32
column_word f l col i = elim (dec_lt i (rows f)) [
  | yes within ↦ col.word i within
  | no past ↦ rw (get_or-eq_default l 0 {n = i} (omega (arith, col.size))) (lit< tt)
]

-- A valid state, its words and its bytes stand for each other.
module _ (f : Family) (s : State) (valid : Valid f s) where
  abbrev r : ℕ
  r = rows f

  two_size : length (s.a ++ s.b) ≡ 2 * r
  two_size = omega (arith, length-append s.a s.b, valid.a.size, valid.b.size)

  three_size : length (s.a ++ s.b ++ s.c) ≡ 3 * r
  three_size = omega (arith, length-append (s.a ++ s.b) s.c, two_size, valid.c.size)

  words_size : length (words s) ≡ state_words f
  unfolding words
  words_size = omega (arith, length-append (s.a ++ s.b ++ s.c) s.d, three_size, valid.d.size)

  words_fit : (i : ℕ) → get_or (words s) i 0 < 2 ^ 32
  unfolding words
  words_fit =
      below_append (2 ^ 32) (s.a ++ s.b ++ s.c) s.d
      (below_append (2 ^ 32) (s.a ++ s.b) s.c
      (below_append (2 ^ 32) s.a s.b (column_word f s.a valid.a) (column_word f s.b valid.b))
      (column_word f s.c valid.c))
      (column_word f s.d valid.d)

  state_words_lem : state f (words s) ≡ s
  unfolding state words
  state_words_lem =
      let behind_b = append_assoc (s.a ++ s.b) s.c s.d in
      let behind_a = behind_b ∙ append_assoc s.a s.b (s.c ++ s.d) in
      let a_back = ap (take r) behind_a ∙ take_at s.a (s.b ++ (s.c ++ s.d)) r valid.a.size in
      let b-back =
      ap (λ (l : List ℕ). take r (drop r l)) behind_a
      ∙ ap (take r) (drop_at s.a (s.b ++ (s.c ++ s.d)) r valid.a.size)
      ∙ take_at s.b (s.c ++ s.d) r valid.b.size in
      let c-back =
      ap (λ (l : List ℕ). take r (drop (2 * r) l)) behind_b
      ∙ ap (take r) (drop_at (s.a ++ s.b) (s.c ++ s.d) (2 * r) two_size)
      ∙ take_at s.c s.d r valid.c.size in
      let d_back =
      ap (take r) (drop_at (s.a ++ s.b ++ s.c) s.d (3 * r) three_size) ∙ take_all r s.d (omega (arith, valid.d.size)) in
      λ i. record { a = a_back i; b = b-back i; c = c-back i; d = d_back i }

  -- Written and read back.
  state_bytes : state f (words_of (state_words f) (bytes_of (words s))) ≡ s
  state_bytes =
      ap (state f)
      ((λ i. words_of (sym words_size i) (sym (append-nil (bytes_of (words s))) i)) ∙ words_bytes (words s) [] words_fit)
      ∙ state_words_lem

  bytes_state : StateBytes f (bytes_of (words s))
  bytes_state =
      record {
        size = omega (arith, length_bytes_of (words s), words_size);
        byte = λ i. elim (dec_lt i (4 * length (words s))) [
          | yes within ↦ rw (get_d_bytes_of (words s) i within) (omega arith)
          | no past ↦ rw (get_or-eq_default (bytes_of (words s)) 0 {n = i} (omega (arith, length_bytes_of (words s)))) (lit< tt)
        ];
      }

-- Read and written again.
module _ (f : Family) (l : List ℕ) (bytes : StateBytes f l) where
  abbrev read : State
  read = state f (words_of (state_words f) l)

  part_column : (k : ℕ) → k + rows f ≤ state_words f → Column f (take (rows f) (drop k (words_of (state_words f) l)))
  part_column k within =
      let ws = words_of (state_words f) l in
      record {
        size = omega (arith, length-take (rows f) (drop k ws), length-drop k ws, length_words_of (state_words f) l);
        word = λ j below. rw (get_or-take (rows f) (drop k ws) j 0 below, get_or-drop k ws j 0) (words_of_fit (state_words f) l (k + j) bytes.byte);
      }

  read_valid : Valid f read
  unfolding state
  read_valid =
      record {
        a = part_column 0 (omega arith);
        b = part_column (rows f) (omega arith);
        c = part_column (2 * rows f) (omega arith);
        d = part_column (3 * rows f) (omega arith);
      }

  read_bytes : bytes_of (words read) ≡ l
  unfolding words state
  read_bytes =
      let ws = words_of (state_words f) l in
      ap bytes_of (together (rows f) ws (length_words_of (state_words f) l))
      ∙ bytes_words (state_words f) l bytes.byte (omega (arith, bytes.size))
      ∙ take_all (4 * state_words f) l (omega (arith, bytes.size))

module _ (f : Family) (last : Bool) (block : List ℕ) where
  ended : (l : List ℕ) → StateBytes f l → Valid f (steps f (expanded f last block) 32 (state f (words_of (state_words f) l)))
  ended l bytes = steps_valid f (expanded f last block) 32 _ (read_valid f l bytes)

  begun : (l : List ℕ) → StateBytes f l → Valid f (unsteps f (expanded f last block) 32 (state f (words_of (state_words f) l)))
  begun l bytes = unsteps_valid f (expanded f last block) 32 _ (read_valid f l bytes)

  -- Either way, the bytes of a state give the bytes of a state.
  pub forward_state : (start : List ℕ) → StateBytes f start → StateBytes f (forward f last start block)
  unfolding forward
  forward_state start bytes = bytes_state f _ (ended start bytes)

  pub backward_state : (end : List ℕ) → StateBytes f end → StateBytes f (backward f last end block)
  unfolding backward
  backward_state end bytes = bytes_state f _ (begun end bytes)

  -- Back after forward is the start.
  pub back_after_forward : (start : List ℕ) → StateBytes f start → backward f last (forward f last start block) block ≡ start
  unfolding forward backward
  back_after_forward start bytes =
      let w = expanded f last block in
      ap (λ (s : State). bytes_of (words (unsteps f w 32 s))) (state_bytes f _ (ended start bytes))
      ∙ ap (λ (s : State). bytes_of (words s)) (unsteps_steps f w 32 _ (read_valid f start bytes))
      ∙ read_bytes f start bytes

  -- Forward after back is the end.
  pub forward_after_back : (end : List ℕ) → StateBytes f end → forward f last (backward f last end block) block ≡ end
  unfolding forward backward
  forward_after_back end bytes =
      let w = expanded f last block in
      ap (λ (s : State). bytes_of (words (steps f w 32 s))) (state_bytes f _ (begun end bytes))
      ∙ ap (λ (s : State). bytes_of (words s)) (steps_unsteps f w 32 _ (read_valid f end bytes))
      ∙ read_bytes f end bytes

  -- The end and the block give the one start.
  pub one_start : (s t : List ℕ) → StateBytes f s → StateBytes f t → forward f last s block ≡ forward f last t block → s ≡ t
  one_start s t s-bytes t-bytes same =
      sym (back_after_forward s s-bytes) ∙ ap (λ (end : List ℕ). backward f last end block) same ∙ back_after_forward t t-bytes

-- The same of the calls: run backward on what the forward run wrote, they leave the start in the lent bytes, and the other way round.
module _ (width : ℕ) (last : Bool) (from block out back : List ℕ) (bytes : (i : ℕ) → get_or from i 0 < 256)
    (accepted_from : steps_refusal width (length from) (length block) (length out) ≡ 0) (room : block_bytes (family_of width) ≤ length back) where
  abbrev f : Family
  f = family_of width

  all_sizes : (length from ≡ block_bytes f) × ((length block ≡ block_bytes f) × (block_bytes f ≤ length out))
  all_sizes = sizes width (length from) (length block) (length out) (family_of width) refl accepted_from

  state_from : StateBytes f from
  state_from = record { size = all_sizes.0; byte = bytes }

  accepted_back : (l : List ℕ) → StateBytes f l → steps_refusal width (length l) (length block) (length back) ≡ 0
  unfolding steps_refusal size_refusal
  accepted_back l state-l =
      let known = width_known width (length from) (length block) (length out) accepted_from in
      rw (known, eq-eqb _ _ state-l.size, eq-eqb _ _ all_sizes.1.0, le-leb _ _ room)

  there_and_back : (go return : Family → Bool → List ℕ → List ℕ → List ℕ) → StateBytes f (go f last from block)
      → return f last (go f last from block) block ≡ from
      → steps_output return width last (take (block_bytes f) (steps_output go width last from block out)) block back ≡ from ++ drop (block_bytes f) back
  there_and_back go return reached returned =
      let n = block_bytes f in
      let end = go f last from block in
      let written : take n (steps_output go width last from block out) ≡ end =
      ap (take n) (sym (accepted go width last from block out refl accepted_from f refl refl).1) ∙ take_at end (drop n out) n reached.size in
      ap (λ (l : List ℕ). steps_output return width last l block back) written
      ∙ sym (accepted return width last end block back refl (accepted_back end reached) f refl refl).1
      ∙ ap (λ (l : List ℕ). l ++ drop n back) returned

  pub calls_back : steps_output backward width last (take (block_bytes (family_of width)) (steps_output forward width last from block out)) block back
      ≡ from ++ drop (block_bytes (family_of width)) back
  calls_back = there_and_back forward backward (forward_state f last block from state_from) (back_after_forward f last block from state_from)

  pub calls_forth : steps_output forward width last (take (block_bytes (family_of width)) (steps_output backward width last from block out)) block back
      ≡ from ++ drop (block_bytes (family_of width)) back
  calls_forth = there_and_back backward forward (backward_state f last block from state_from) (forward_after_back f last block from state_from)
