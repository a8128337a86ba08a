-- The states between the steps: one step more, its words, and what a trace of them leaves in the lent words.
use mathlib.Core.Bool.{Bool}
use mathlib.Core.List.{List, [], ◌++◌, flatten}
use mathlib.Core.Path.{◌≡◌, sym, ap, ◌∙◌}
use Prim.Native.Nat.{ℕ, suc, ◌+◌, ◌*◌, ◌-◌, ◌<◌, ◌≤◌}
use native.Mathlib.Numerals.{add-one}
use native.Mathlib.Omega.{arith}
use lib.ListN.{length, get_or, drop, get_or-append}
use lib.Seq.{get_or-append-add, paste}
use Rattle.simd.specs.Basic.{Family, small, large, rows, state_words as wordCount, table, words_of}
use Rattle.simd.specs.Expansion.{expanded}
use Rattle.simd.specs.Steps.{words, state, step, steps, mixed}
use Rattle.laws.proofs.Table.{length_table}
use Rattle.words.specs.Columns.{columns, from_columns}
use Rattle.expansion.proofs.Written.{Written, written_none, written_more}
use Rattle.compression.specs.Flat.{flat}
use Rattle.compression.proofs.Laws.{Sized, flat_words}
use Rattle.block_steps.proofs.States.{state_sized, steps_sized}
use Rattle.trace_states.specs.States.{old_words, step_rows, state_after, state_words}

-- The row that step i takes.
module _ (w old : List (List ℕ)) (count : length w ≡ 32) (i : ℕ) where
  pub row_front : i < 32 → get_or w i [] ≡ get_or (w ++ old) i []
  row_front less = sym (get_or-append w old [] i (omega arith))

  pub row_back : 32 ≤ i → get_or old (i - 32) [] ≡ get_or (w ++ old) i []
  row_back more =
      let place : length w + (i - 32) ≡ i = omega arith in
      sym (ap (λ k. get_or (w ++ old) k []) (sym place) ∙ get_or-append-add w old (i - 32) [])

-- Each state has its place in the room for 36.
row_room : (f : Family) (i n : ℕ) → i < 36 → 144 * rows f ≤ n → wordCount f * i + wordCount f ≤ n
row_room small i n more room = omega arith
row_room large i n more room = omega arith

flat_size : (f : Family) (t : List (List ℕ)) {v : List ℕ} → v ≡ flat f t → length v ≡ wordCount f
unfolding flat
flat_size f t v-is = ap length v-is ∙ length_table (wordCount f) _

module _ (f : Family) (last : Bool) (old block : List ℕ) where
  after_sized : (n : ℕ) → Sized f (state_after f last old block n)
  unfolding state_after mixed
  after_sized n = steps_sized f (step_rows f last old block) n _ (state_sized f _ (length_table (wordCount f) _))

  -- The rows and the first state, as the code has them.
  module _ {x : List ℕ} {w h m : List (List ℕ)} {mix : List ℕ} (x_is : x ≡ words_of (wordCount f) old) (w_is : w ≡ expanded f last block)
      (h_is : h ≡ columns (state f x)) (mix_is : mix ≡ mixed f x block) (m_is : m ≡ columns (state f mix)) where
    rows_are : w ++ h ≡ step_rows f last old block
    unfolding step_rows old_words
    rows_are = λ t. w_is t ++ (h_is ∙ ap (λ l. columns (state f l)) x_is) t

    begins : m ≡ columns (state_after f last old block 0)
    unfolding state_after steps old_words
    begins = m_is ∙ ap (λ l. columns (state f l)) (mix_is ∙ ap (λ l. mixed f l block) x_is)

  goes_on : (i : ℕ) {s t : List (List ℕ)} {row : List ℕ} → s ≡ columns (state_after f last old block i)
      → row ≡ get_or (step_rows f last old block) i [] → t ≡ columns (step f i row (from_columns s)) → t ≡ columns (state_after f last old block (i + 1))
  unfolding state_after steps
  goes_on i s-is row_is t-is =
      t-is ∙ (λ k. columns (step f i (row_is k) (from_columns (s-is k)))) ∙ ap (λ n. columns (state_after f last old block n)) (sym (add-one i))

  -- The words of the state after step i.
  pub row_of : ℕ → List ℕ
  row_of i = words (state_after f last old block (suc i))

  row_is : (i : ℕ) {t : List (List ℕ)} {v : List ℕ} → t ≡ columns (state_after f last old block (i + 1)) → v ≡ flat f t → v ≡ row_of i
  unfolding row_of
  row_is i t-is v-is =
      v-is ∙ ap (flat f) t-is ∙ flat_words f (state_after f last old block (i + 1)) (after_sized (i + 1))
      ∙ ap (λ n. words (state_after f last old block n)) (add-one i)

  row_size : (i : ℕ) → length (row_of i) ≡ wordCount f
  unfolding row_of flat
  row_size i = sym (ap length (flat_words f (state_after f last old block (suc i)) (after_sized (suc i)))) ∙ length_table (wordCount f) _

-- A trace of i steps: the rows w and h that it takes, the state s that it has reached, and the words l that it has written over those before.
pub record Tracing (f : Family) (last : Bool) (old block : List ℕ) (w h : List (List ℕ)) (before l : List ℕ) (s : List (List ℕ)) (i : ℕ) : Type 0
  where
    pub within : i ≤ 36
    pub room : 144 * rows f ≤ length before
    pub count : length w ≡ 32
    pub taken : w ++ h ≡ step_rows f last old block
    pub reached : s ≡ columns (state_after f last old block i)
    pub put : Written (wordCount f) (row_of f last old block) before i l

module _ {f : Family} {last : Bool} {old block : List ℕ} where
  pub tracing_none : {x mix before : List ℕ} {w h s : List (List ℕ)} → 144 * rows f ≤ length before → x ≡ words_of (wordCount f) old
      → w ≡ expanded f last block → h ≡ columns (state f x) → mix ≡ mixed f x block → s ≡ columns (state f mix)
      → Tracing f last old block w h before before s 0
  unfolding expanded
  tracing_none room x_is w_is h_is mix_is s-is =
      record {
        within = omega arith;
        room = room;
        count = ap length w_is ∙ length_table 32 _;
        taken = rows_are f last old block x_is w_is h_is mix_is s-is;
        reached = begins f last old block x_is w_is h_is mix_is s-is;
        put = written_none;
      }

  module _ {before l : List ℕ} {w h s : List (List ℕ)} {i : ℕ} (tracing : Tracing f last old block w h before l s i) where
    -- The words of a state find their place in the output.
    pub tracing_room : i < 36 → (t : List (List ℕ)) {v : List ℕ} → v ≡ flat f t → wordCount f * i + length v ≤ length l
    tracing_room more t v-is =
        omega (arith, flat_size f t v-is, tracing.put.size, row_room f i (length before) more tracing.room)

    pub tracing_more : {row v m : List ℕ} {t : List (List ℕ)} → i < 36 → row ≡ get_or (w ++ h) i [] → t ≡ columns (step f i row (from_columns s))
        → v ≡ flat f t → m ≡ paste l (wordCount f * i) v (length v) → Tracing f last old block w h before m t (i + 1)
    tracing_more more row-got t-is v-is m_is =
        let next = goes_on f last old block i tracing.reached (row-got ∙ ap (λ l. get_or l i []) tracing.taken) t-is in
        let written = m_is ∙ ap (λ v. paste l (wordCount f * i) v (length v)) (row_is f last old block i next v-is) in
        record {
          within = omega arith;
          room = tracing.room;
          count = tracing.count;
          taken = tracing.taken;
          reached = next;
          put = written_more tracing.put written (row_size f last old block i) (row_room f i (length before) more tracing.room);
        }

    pub tracing_all : 36 ≤ i → l ≡ state_words f last old block ++ drop (144 * rows f) before
    unfolding state_words row_of
    tracing_all past =
        let g = row_of f last old block in
        let done : i ≡ 36 = omega (arith, tracing.within) in
        let places : wordCount f * 36 ≡ 144 * rows f = omega arith in
        tracing.put.is ∙ ap (λ k. flatten (table k g) ++ drop (wordCount f * k) before) done
        ∙ ap (λ n. flatten (table 36 g) ++ drop n before) places
