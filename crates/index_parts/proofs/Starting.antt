-- The kept state at a place of an index: its words behind the head and the states before.
use mathlib.Core.List.{List}
use mathlib.Core.Path.{◌≡◌, ◌∙◌}
use Prim.Native.Nat.{ℕ, ◌+◌, ◌*◌, ◌/◌}
use borrow.Author.Tests.{eq-eqb, ne_eqb}
use lib.ListN.{drop}
use Rattle.simd.specs.Basic.{Family, family_of, block_bytes, words_of}
use Rattle.simd.specs.Constants.{start}
use Rattle.bits.specs.Zero.{padded}
use Rattle.form.specs.Head.{head_bytes}
use Rattle.hash_parts.proofs.Refusing.{quarter}
use Rattle.checkpoints.specs.Index.{kept, kept_state, starts_at, start_state}

module _ (width n : ℕ) (old : List ℕ) (b : ℕ) where
  abbrev f : Family
  f = family_of width

  pub none_kept : {r : List ℕ} → r ≡ padded 32 (start width) → kept f n ≡ 0 → r ≡ padded 32 (start_state width old n b)
  unfolding start_state
  none_kept begun none = begun ∙ rw (eq-eqb (kept f n) 0 none)

  pub one_kept : {r : List ℕ} {size i : ℕ} → size ≡ block_bytes f → i ≡ starts_at f n b → (kept f n ≡ 0 → ⊥)
      → r ≡ padded 32 (words_of (size / 4) (drop (head_bytes + size * i) old))
      → r ≡ padded 32 (start_state width old n b)
  unfolding start_state kept_state
  one_kept {size = size} {i = i} sized placed some read =
      read
      ∙ (λ j. padded 32 (words_of (quarter f size sized j) (drop (head_bytes + sized j * placed j) old)))
      ∙ rw (ne_eqb (kept f n) 0 some)
