-- The states that the steps pass through: their columns keep their size, so their words are those of the columns.
use mathlib.Core.Bool.{Bool, true, false}
use mathlib.Core.List.{List, []}
use mathlib.Core.Path.{◌≡◌, refl, ap, ◌∙◌}
use Prim.Native.Nat.{ℕ, zero, suc}
use native.Mathlib.Omega.{arith}
use lib.ListN.{length, get_or, length-take, length-drop}
use Rattle.simd.specs.Basic.{Family, small, large, rows, state_words, table, words_of, bytes_of}
use Rattle.simd.specs.Expansion.{expanded}
use Rattle.simd.specs.Steps.{State, state, step, steps}
use Rattle.laws.proofs.Table.{length_table}
use Rattle.words.specs.Columns.{columns, from_columns}
use Rattle.unsteps.specs.Unstep.{old_a, unstep, unsteps}
use Rattle.compression.specs.Flat.{flat}
use Rattle.compression.proofs.Laws.{Sized, flat_words}
use Rattle.block_steps.specs.Moved.{turned, moved}

-- Steps and steps backward keep R words to a column.
pub state_sized : (f : Family) (l : List ℕ) → length l ≡ state_words f → Sized f (state f l)
unfolding state
state_sized f l size =
    record {
      a_size = simp length-take (omega arith);
      b_size = simp (length-take, length-drop) (omega arith);
      c_size = simp (length-take, length-drop) (omega arith);
      d_size = simp (length-take, length-drop) (omega arith);
    }

pub steps_sized : (f : Family) (w : List (List ℕ)) (n : ℕ) (s : State) → Sized f s → Sized f (steps f w n s)
unfolding steps step
steps_sized f w zero s sized = sized
steps_sized f w (suc i) s sized =
    let before = steps_sized f w i s sized in
    record { a_size = length_table (rows f) _; b_size = length_table (rows f) _; c_size = before.b_size; d_size = before.c_size }

unsteps_sized : (f : Family) (w : List (List ℕ)) (n : ℕ) (s : State) → Sized f s → Sized f (unsteps f w n s)
unfolding unsteps unstep old_a
unsteps_sized f w zero s sized = sized
unsteps_sized f w (suc i) s sized =
    unsteps_sized f w i (unstep f i (get_or w i []) s)
    (record { a_size = length_table (rows f) _; b_size = sized.c_size; c_size = sized.d_size; d_size = length_table (rows f) _ })

turned_sized : (back : Bool) (f : Family) (w : List (List ℕ)) (s : State) → Sized f s → Sized f (turned back f w s)
unfolding turned
turned_sized false f w s sized = steps_sized f w 32 s sized
turned_sized true f w s sized = unsteps_sized f w 32 s sized

flat_of : (f : Family) (t : List (List ℕ)) → flat f t ≡ flat f (columns (from_columns t))
unfolding flat table
flat_of small t = refl
flat_of large t = refl

-- The bytes of the state reached, from the words x of the state read, its columns m, the rows w, the columns t reached and their words y.
pub bytes_moved : (back : Bool) (f : Family) (last : Bool) (start block : List ℕ) (t : List (List ℕ)) {w m : List (List ℕ)} {x y : List ℕ}
    → x ≡ words_of (state_words f) start → w ≡ expanded f last block → m ≡ columns (state f x)
    → from_columns t ≡ turned back f w (from_columns m) → y ≡ flat f t → bytes_of y ≡ moved back f last start block
unfolding moved words_of
bytes_moved back f last start block t x_is w_is m_is t-is y_is =
    let begin = state_sized f (words_of (state_words f) start) (length_table (state_words f) _) in
    let from = ap from_columns (m_is ∙ ap (λ l. columns (state f l)) x_is) in
    let ended = t-is ∙ (λ i. turned back f (w_is i) (from i)) in
    ap bytes_of
    (y_is ∙ flat_of f t ∙ ap (λ s. flat f (columns s)) ended
    ∙ flat_words f _ (turned_sized back f (expanded f last block) _ begin))
