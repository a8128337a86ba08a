-- The compression from its parts: columns of a state, its words, and 36 steps as 32 and 4.
use mathlib.Core.Bool.{Bool}
use mathlib.Core.List.{List, [], ◌++◌}
use mathlib.Core.Path.{◌≡◌, refl, sym, ap, ◌∙◌, subst}
use Prim.Native.Nat.{ℕ, zero, suc, ◌+◌, ◌≤◌}
use native.Mathlib.Omega.{arith}
use lib.Bits.{bit_xor}
use lib.ListN.{length, get_or, take, drop, length-take, length-drop, get_or-append}
use lib.Seq.{get_or-take, get_or-drop, get_or-append-add}
use Rattle.simd.specs.Basic.{Family, small, large, rows, state_words, table, word_at, words_of}
use Rattle.simd.specs.Expansion.{expanded}
use Rattle.simd.specs.Steps.{State, words, state, step, steps, mixed, compression}
use Rattle.laws.proofs.Table.{length_table, get_d_table, table_of, table_ext}
use Rattle.words.specs.Columns.{columns, from_columns}
use Rattle.words.specs.Runs.{last_steps}
use Rattle.compression.specs.Flat.{flat}

-- A part of a list by its elements.
pub part : (n k : ℕ) (l : List ℕ) → k + n ≤ length l → take n (drop k l) ≡ table n (λ j. get_or l (k + j) 0)
part n k l fits =
    table_of 0 n (λ j. get_or l (k + j) 0) (take n (drop k l)) (simp (length-take, length-drop) (omega arith))
    (λ j below. get_or-take n (drop k l) j 0 below ∙ get_or-drop k l j 0)

-- The words of a state by its columns.
own : (n : ℕ) (l : List ℕ) → length l ≡ n → l ≡ table n (λ j. get_or l j 0)
own n l size = table_of 0 n (λ j. get_or l j 0) l size (λ j below. refl)

pub record Sized (f : Family) (s : State) : Type 0 where
  pub a_size : length s.a ≡ rows f
  pub b_size : length s.b ≡ rows f
  pub c_size : length s.c ≡ rows f
  pub d_size : length s.d ≡ rows f

pub flat_words : (f : Family) (s : State) → Sized f s → flat f (columns s) ≡ words s
unfolding flat words table
flat_words small s sized =
    sym (λ t. own 4 s.a sized.a_size t ++ own 4 s.b sized.b_size t ++ own 4 s.c sized.c_size t ++ own 4 s.d sized.d_size t)
flat_words large s sized =
    sym (λ t. own 8 s.a sized.a_size t ++ own 8 s.b sized.b_size t ++ own 8 s.c sized.c_size t ++ own 8 s.d sized.d_size t)

last_sized : (f : Family) (h s : State) → Sized f (last_steps f h s)
unfolding last_steps step
last_sized f h s =
    record {
      a_size = length_table (rows f) _;
      b_size = length_table (rows f) _;
      c_size = length_table (rows f) _;
      d_size = length_table (rows f) _;
    }

-- The first steps read only the first rows.
steps_append : (f : Family) (w v : List (List ℕ)) (n : ℕ) (s : State) → n ≤ length w → steps f (w ++ v) n s ≡ steps f w n s
unfolding steps
steps_append f w v zero s fits = refl
steps_append f w v (suc i) s fits =
    λ t. step f i (get_or-append w v [] i (omega arith) t) (steps_append f w v i s (omega arith) t)

-- 36 steps are 32 with the expanded block and 4 with the columns of h.
next : (f : Family) (w : List (List ℕ)) (k : ℕ) (s : State) → steps f w (suc k) s ≡ step f k (get_or w k []) (steps f w k s)
unfolding steps
next f w k s = refl

all_steps : (f : Family) (w : List (List ℕ)) (h s : State) → length w ≡ 32 → steps f (w ++ columns h) 36 s ≡ last_steps f h (steps f w 32 s)
unfolding last_steps
all_steps f w h s size =
    let all = w ++ columns h in
    let row : (k : ℕ) → get_or all (32 + k) [] ≡ get_or (columns h) k [] =
    λ k. subst (λ n. get_or all (n + k) [] ≡ get_or (columns h) k []) size (get_or-append-add w (columns h) k []) in
    let s₀ = steps_append f w (columns h) 32 s (omega arith) in
    let s₁ = next f all 32 s ∙ (λ t. step f 32 (row 0 t) (s₀ t)) in
    let s₂ = next f all 33 s ∙ (λ t. step f 33 (row 1 t) (s₁ t)) in
    let s₃ = next f all 34 s ∙ (λ t. step f 34 (row 2 t) (s₂ t)) in
    next f all 35 s ∙ (λ t. step f 35 (row 3 t) (s₃ t))

expanded_size : (f : Family) (last : Bool) (b : List ℕ) → length (expanded f last b) ≡ 32
unfolding expanded
expanded_size f last b = length_table 32 _

-- A compression by its parts.
pub compressed : (f : Family) (last : Bool) (old bytes : List ℕ) {h m w t : List (List ℕ)} {mix new : List ℕ} →
    h ≡ columns (state f old) → mix ≡ mixed f old bytes → m ≡ columns (state f mix) → w ≡ expanded f last bytes →
    t ≡ columns (last_steps f (from_columns h) (steps f w 32 (from_columns m))) → new ≡ flat f t →
    new ≡ compression f last old bytes
unfolding compression
compressed f last old bytes h_is mix_is m_is w_is t-is New-is =
    let start = m_is ∙ ap (λ l. columns (state f l)) mix_is in
    let ended = t-is ∙ (λ k. columns (last_steps f (from_columns (h_is k)) (steps f (w_is k) 32 (from_columns (start k))))) in
    let begin = state f (mixed f old bytes) in
    New-is ∙ ap (flat f) ended
    ∙ flat_words f (last_steps f (state f old) (steps f (expanded f last bytes) 32 begin)) (last_sized f (state f old) _)
    ∙ ap words (sym (all_steps f (expanded f last bytes) (state f old) begin (expanded_size f last bytes)))

-- Old state xor block, word by word.
pub mixed_words : (f : Family) (old bytes : List ℕ) → table (state_words f) (λ i. bit_xor (get_or old i 0) (word_at bytes i)) ≡ mixed f old bytes
unfolding mixed words_of
mixed_words f old bytes =
    table_ext (state_words f) _ _ (λ i below. ap (bit_xor (get_or old i 0)) (sym (get_d_table (state_words f) (word_at bytes) i 0 below)))
