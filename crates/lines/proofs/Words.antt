-- The lines, word by word with the byte after each.
use mathlib.Core.List.{List, [], ◌∷◌, ◌++◌, append_assoc}
use mathlib.Core.Path.{◌≡◌, refl, sym, ap, ◌∙◌}
use Prim.Native.Nat.{ℕ, ◌+◌, ◌≤◌, ◌<◌}
use native.Mathlib.Omega.{arith}
use lib.ListN.{length, length-append}
use Rattle.text.specs.Text.{decimal, hex}
use Rattle.text.proofs.Words.{length_decimal}
use Rattle.check_digits.specs.Quote.{quote}
use Rattle.lines.specs.Lines.{line, digest_word, done_word, refused_word, at_word, digest_line, done_line, refused_line}

abbrev pub spaced : List ℕ → List ℕ
spaced word = word ++ (32 ∷ [])

abbrev pub ended : List ℕ → List ℕ
ended word = word ++ (10 ∷ [])

-- A width has at most 5 digits, so that the longest line ends at 182.
pub short_width : (width : ℕ) → width < 65536 → length (spaced (decimal width)) ≤ 6
short_width width below = omega (arith, length-append (decimal width) (32 ∷ []), length_decimal 5 width (omega arith) (omega arith))

-- The digest's line before its end.
abbrev pub words : ℕ → ℕ → List ℕ → List ℕ
words n w d = spaced digest_word ++ spaced (decimal n) ++ spaced (decimal w) ++ spaced (hex d) ++ quote d

pub digest_line_lem : (n w : ℕ) (d : List ℕ) → words n w d ++ (10 ∷ []) ≡ digest_line n w d
unfolding digest_line line
digest_line_lem n w d = simp append_assoc

pub digest_line_length : (n w : ℕ) (d : List ℕ) → length (words n w d) + 1 ≡ length (digest_line n w d)
digest_line_length n w d = sym (length-append (words n w d) (10 ∷ [])) ∙ ap length (digest_line_lem n w d)

pub done_line_lem : (n : ℕ) → spaced done_word ++ ended (decimal n) ≡ done_line n
unfolding done_line line
done_line_lem n = refl

pub refused_line_lem : (n p : ℕ) → spaced refused_word ++ spaced (decimal n) ++ spaced at_word ++ ended (decimal p) ≡ refused_line n p
unfolding refused_line line
refused_line_lem n p = simp append_assoc
