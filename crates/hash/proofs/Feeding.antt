-- Pieces that are fed, and what holds at the four widths.
use mathlib.Core.Bool.{Bool, true, false, ◌||◌}
use mathlib.Core.List.{List}
use mathlib.Core.Logic.{◌⊎◌, inl, inr, ⊎_elim}
use mathlib.Core.Path.{◌≡◌, refl, sym, subst}
use Prim.Native.Nat.{ℕ, ◌+◌, ◌*◌, ◌≤◌}
use native.Mathlib.Omega.{arith}
use borrow.Author.Tests.{eqb-true, le-leb}
use lib.Dec.{eqb}
use lib.ListN.{length, length-take}
use Rattle.simd.specs.Basic.{family_of, is_width, state_words}
use Rattle.simd.specs.Constants.{start, start224, start256, start384, start512}
use Rattle.simd.specs.Message.{bits_of, message}
use Rattle.laws.proofs.Bits.{Bits, bits_bits_of, bits_take, length_bits_of}
use Rattle.hash.specs.Open.{limit, legal, full_blocks, advanced, piece_refusal, feed_refusal, fed, feed_answer}
use Rattle.hash.specs.declared.Hash.{Hash}

-- A piece that is no reason for a refusal: its count is within its bytes.
abbrev pub Whole : List ℕ → ℕ → Type 0
Whole piece count = count ≤ 8 * length piece

pub length_message : (piece : List ℕ) (count : ℕ) → count ≤ 8 * length piece → length (message piece count) ≡ count
unfolding message
length_message piece count within = omega (arith, length-take count (bits_of piece), length_bits_of piece)

pub bits_message : (piece : List ℕ) (count : ℕ) → Bits (message piece count)
unfolding message
bits_message piece count = bits_take count (bits_of piece) (bits_bits_of piece)

unrefused : (h : Hash) (piece : List ℕ) (count : ℕ) → legal h ≡ true → Whole piece count → h.bits + count ≤ limit → feed_refusal h piece count ≡ 0
unfolding feed_refusal piece_refusal
unrefused h piece count good whole short =
    rw (good, le-leb count (8 * length piece) whole, le-leb (h.bits + count) limit short)

pub fed_whole : (h : Hash) (piece : List ℕ) (count : ℕ) → legal h ≡ true → Whole piece count → h.bits + count ≤ limit
    → feed_answer h piece count ≡ record { hash = advanced h (message piece count); blocks = full_blocks h (length (message piece count)); refusal = 0 }
unfolding feed_answer fed
fed_whole h piece count good whole short = rw (unrefused h piece count good whole short)

or_cases : (a b : Bool) → (a || b) ≡ true → (a ≡ true) ⊎ (b ≡ true)
or_cases true b e = inl refl
or_cases false b e = inr e

-- What holds at the four widths.
pub at_widths : (P : ℕ → Type 0) → P 224 → P 256 → P 384 → P 512 → (width : ℕ) → is_width width ≡ true → P width
at_widths P a b c d width known =
    ⊎_elim
    (λ three.
    ⊎_elim
    (λ two.
    ⊎_elim (λ e. subst P (sym (eqb-true width 224 e)) a) (λ e. subst P (sym (eqb-true width 256 e)) b)
    (or_cases (eqb width 224) (eqb width 256) two))
    (λ e. subst P (sym (eqb-true width 384 e)) c)
    (or_cases (eqb width 224 || eqb width 256) (eqb width 384) three))
    (λ e. subst P (sym (eqb-true width 512 e)) d)
    (or_cases (eqb width 224 || eqb width 256 || eqb width 384) (eqb width 512) known)

pub start_length : (width : ℕ) → is_width width ≡ true → length (start width) ≡ state_words (family_of width)
unfolding start start224 start256 start384 start512
start_length = at_widths (λ (w : ℕ). length (start w) ≡ state_words (family_of w)) refl refl refl refl
