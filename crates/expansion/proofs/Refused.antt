-- The refusal and the output of the call, by whether the width is known and by its family.
use mathlib.Core.Bool.{Bool, true, false, cond}
use mathlib.Core.List.{List, ◌++◌, flatten}
use mathlib.Core.Path.{◌≡◌, refl, sym, ap, ◌∙◌}
use Prim.Native.Nat.{ℕ, suc, ◌≤◌, ◌<◌}
use native.Mathlib.Omega.{arith}
use lib.Dec.{leb, eqb}
use lib.ListN.{length, drop}
use borrow.Author.Tests.{le-leb, lt-leb, eq-eqb, ne_eqb, eqb-true, leb-true}
use Rattle.simd.specs.Basic.{Family, small, large, is_width, family_of, block_bytes}
use Rattle.simd.specs.Expansion.{expanded}
use Rattle.expansion.specs.Call.{expanded_words, size_refusal, expand_refusal, expand_output}

pub family_small : (w : ℕ) → w ≤ 256 → family_of w ≡ small
family_small w h = rw (le-leb w 256 h)

pub family_large : (w : ℕ) → 256 < w → family_of w ≡ large
family_large w h = rw (lt-leb w 256 h)

-- The three answers of the sizes.
module _ (block words bytes room : ℕ) where
  pub other_size : (bytes ≡ block → ⊥) → 7 ≡ size_refusal block words bytes room
  unfolding size_refusal
  other_size other = rw (ne_eqb bytes block other)

  pub too_short : bytes ≡ block → room < words → 6 ≡ size_refusal block words bytes room
  unfolding size_refusal
  too_short same short = rw (eq-eqb bytes block same, lt-leb words room short)

  pub none : bytes ≡ block → words ≤ room → 0 ≡ size_refusal block words bytes room
  unfolding size_refusal
  none same long = rw (eq-eqb bytes block same, le-leb words room long)

pub unknown : (w bytes room : ℕ) → is_width w ≡ false → expand_refusal w bytes room ≡ 1
unfolding expand_refusal
unknown w bytes room other = ap (λ k. cond k (size_refusal (block_bytes (family_of w)) (expanded_words (family_of w)) bytes room) 1) other

pub known : (w bytes room : ℕ) (f : Family) → is_width w ≡ true → family_of w ≡ f
    → expand_refusal w bytes room ≡ size_refusal (block_bytes f) (expanded_words f) bytes room
unfolding expand_refusal
known w bytes room f yes-width is =
    ap (λ k. cond k (size_refusal (block_bytes (family_of w)) (expanded_words (family_of w)) bytes room) 1) yes-width
    ∙ ap (λ g. size_refusal (block_bytes g) (expanded_words g) bytes room) is

taken : (k : Bool) (a n : ℕ) → cond k a (suc n) ≡ 0 → (k ≡ true) × (a ≡ 0)
taken true a n e = (refl, e)
taken false a n e = absurd (omega arith)

-- Where nothing is refused the block and the output have their sizes.
pub sizes : (w bytes room : ℕ) (f : Family) → family_of w ≡ f → expand_refusal w bytes room ≡ 0 → (bytes ≡ block_bytes f) × (expanded_words f ≤ room)
unfolding expand_refusal size_refusal
sizes w bytes room f is zero_refusal =
    let g = family_of w in
    let sized = (taken (is_width w) (size_refusal (block_bytes g) (expanded_words g) bytes room) 0 zero_refusal).1 in
    let block = taken (eqb bytes (block_bytes g)) (cond (leb (expanded_words g) room) 0 6) 6 sized in
    let fits = taken (leb (expanded_words g) room) 0 5 block.1 in
    (eqb-true bytes (block_bytes g) block.0 ∙ ap block_bytes is, rw is at (leb-true (expanded_words g) room fits.0))

pub refused : (w : ℕ) (last : Bool) (block out : List ℕ) → (expand_refusal w (length block) (length out) ≡ 0 → ⊥) → out ≡ expand_output w last block out
unfolding expand_output
refused w last block out stopped =
    ap (λ k. cond k (flatten (expanded (family_of w) last block) ++ drop (expanded_words (family_of w)) out) out)
    (sym (ne_eqb (expand_refusal w (length block) (length out)) 0 stopped))

pub accepted : (w : ℕ) (last : Bool) (block out : List ℕ) (f : Family) → family_of w ≡ f → expand_refusal w (length block) (length out) ≡ 0
    → flatten (expanded f last block) ++ drop (expanded_words f) out ≡ expand_output w last block out
unfolding expand_output
accepted w last block out f is zero_refusal =
    ap (λ g. flatten (expanded g last block) ++ drop (expanded_words g) out) (sym is)
    ∙ ap (λ k. cond k (flatten (expanded (family_of w) last block) ++ drop (expanded_words (family_of w)) out) out)
    (sym (eq-eqb (expand_refusal w (length block) (length out)) 0 zero_refusal))
