-- What the two outputs hold: an index is written in two parts, what stands before the state that the run starts from and the states from there on.
use mathlib.Core.Bool.{Bool, true, false, cond}
use mathlib.Core.List.{List, [], ◌++◌, append-nil}
use mathlib.Core.Path.{◌≡◌, refl, sym, ap, ◌∙◌}
use Prim.Native.Nat.{ℕ, ◌+◌, ◌*◌, ◌-◌, ◌≤◌}
use native.Mathlib.Omega.{arith}
use borrow.Rule.Slice.PartMut.{put_mid, drop_put}
use lib.Dec.{eqb}
use lib.ListN.{length, take, drop, length-append, take-append-drop}
use lib.Seq.{drop-drop}
use Rattle.simd.specs.Basic.{Family, family_of, is_width, block_bytes, state_words, digest_bytes, bytes_of, words_of}
use Rattle.simd.specs.Constants.{start}
use Rattle.simd.specs.Hash.{chain, final_state, digest}
use Rattle.form.specs.Head.{head_bytes, head}
use Rattle.laws.proofs.LittleEndian.{length_words_of}
use Rattle.bits.proofs.Parts.{put_front, put_length}
use Rattle.hash.specs.Open.{written}
use Rattle.hash.proofs.Feeding.{start_length}
use Rattle.checkpoints.specs.Index.{kept, states, states_from, final_from, index_of, kept_state, starts_at, start_state, corrected_index, corrected_digest}
use Rattle.checkpoints.proofs.States.{length_states, final_from_lem, index_cut}

-- Two parts written one behind the other to the front of a buffer.
pub parts_written : (a e : ℕ) (out x y : List ℕ) → length x ≡ a → length y ≡ e - a → a ≤ e → e ≤ length out
    → put_mid a (e - a) (put_mid 0 (a - 0) out x) y ≡ written 0 (x ++ y) out
unfolding written
parts_written a e out x y one two order within =
    let first = put_mid 0 (a - 0) out x in
    let long : length first ≡ length out = put_length 0 a out x (omega arith) (omega arith) (omega (arith, one)) in
    let front : take a first ≡ x = put_front 0 a out x [] (omega arith) (omega arith) (omega (arith, one)) refl in
    let both = put_mid a (e - a) first y in
    let size : length (x ++ y) ≡ e = omega (arith, length-append x y) in
    let place : a + (e - a) ≡ e = omega arith in
    let rest : drop e first ≡ drop e out =
    ap (λ (k : ℕ). drop k first) (sym place) ∙ sym (drop-drop (e - a) a first)
    ∙ ap (drop (e - a)) (drop_put 0 a out x (omega arith) (omega arith) (omega (arith, one)))
    ∙ drop-drop (e - a) a out ∙ ap (λ (k : ℕ). drop k out) place in
    let behind : drop e both ≡ drop (length (x ++ y)) out =
    drop_put a e first y order (omega (arith, long)) two ∙ rest ∙ ap (λ (k : ℕ). drop k out) (sym size) in
    sym (take-append-drop e both) ∙ (λ i. put_front a e first y x order (omega (arith, long)) two front i ++ behind i)

-- The bytes of the states from state i on.
pub length_from : (f : Family) (s m : List ℕ) (n i : ℕ) → length s ≡ state_words f → length m ≡ n → length (states_from f s m i) ≡ block_bytes f * (kept f n - i)
unfolding states_from
length_from f s m n i words size = length_states f s _ words (kept f (length m) - i) ∙ ap (λ (n : ℕ). block_bytes f * (kept f n - i)) size

-- What a fresh run has written, with `s` the width's starting state: a run from kept state 0 on is one of the whole message.
module _ (width : ℕ) (m : List ℕ) {s : List ℕ} (begun : s ≡ start width) where
  pub run_index : {n : ℕ} {x y : List ℕ} → length m ≡ n → x ≡ head width n → y ≡ states_from (family_of width) s m 0 → x ++ y ≡ index_of width m
  unfolding states chain
  run_index size one two =
      let f = family_of width in
      (λ i. (one ∙ ap (head width) (sym size) ∙ sym (append-nil (head width (length m)))) i ++ (two ∙ ap (λ (s : List ℕ). states_from f s m 0) begun) i)
      ∙ sym (index_cut width m 0 (omega arith))

  pub run_digest : take (digest_bytes width) (bytes_of (final_from (family_of width) s m 0)) ≡ digest width m
  unfolding digest final_state chain
  run_digest =
      let f = family_of width in
      ap (λ (t : List ℕ). take (digest_bytes width) (bytes_of t))
      (ap (λ (s : List ℕ). final_from f s m 0) begun ∙ final_from_lem f (start width) m 0 (omega arith))

-- The state that a correction starts from has the family's words.
either : (t : Bool) (x y : List ℕ) {k : ℕ} → length x ≡ k → length y ≡ k → length (cond t x y) ≡ k
either true x y one two = one
either false x y one two = two

pub start_words : (width : ℕ) (old : List ℕ) (n b : ℕ) → is_width width ≡ true → length (start_state width old n b) ≡ state_words (family_of width)
unfolding start_state kept_state
start_words width old n b known =
    let f = family_of width in
    let index = drop (head_bytes + block_bytes f * starts_at f n b) old in
    either (eqb (kept f n) 0) (start width) (words_of (state_words f) index) (start_length width known) (length_words_of (state_words f) index)

-- What a correction has written, with `s` the state that it starts from, state i of the old index.
module _ (width : ℕ) (old m : List ℕ) (b : ℕ) {n i : ℕ} {s : List ℕ} (size : length m ≡ n)
    (placed : i ≡ starts_at (family_of width) n b) (begun : s ≡ start_state width old n b) where
  at : i ≡ starts_at (family_of width) (length m) b
  at = placed ∙ ap (λ (n : ℕ). starts_at (family_of width) n b) (sym size)

  from : s ≡ start_state width old (length m) b
  from = begun ∙ ap (λ (n : ℕ). start_state width old n b) (sym size)

  pub corrected_index_lem : {k : ℕ} {x y : List ℕ} → k ≡ block_bytes (family_of width) → x ≡ take (head_bytes + k * i) old
      → y ≡ states_from (family_of width) s m i → x ++ y ≡ corrected_index width old m b
  unfolding corrected_index
  corrected_index_lem sized one two =
      let f = family_of width in
      λ j. (one ∙ λ j. take (head_bytes + sized j * at j) old) j ++ (two ∙ λ j. states_from f (from j) m (at j)) j

  pub corrected_digest_lem : take (digest_bytes width) (bytes_of (final_from (family_of width) s m i)) ≡ corrected_digest width old m b
  unfolding corrected_digest
  corrected_digest_lem = λ j. take (digest_bytes width) (bytes_of (final_from (family_of width) (from j) m (at j)))
