-- The lines that `seal` prints.
use Rattle.std.specs.Prelude.{List, [], ◌∷◌, ◌++◌, ℕ}
use Rattle.text.specs.Text.{decimal, hex}
use Rattle.check_digits.specs.Quote.{quote}

-- Words with single spaces between, and the end of the line.
unfoldable pub line : List (List ℕ) → List ℕ
line [] = 10 ∷ []
line (word ∷ []) = word ++ (10 ∷ [])
line (word ∷ next ∷ words) = word ++ (32 ∷ line (next ∷ words))

-- The fixed words.
abbrev pub digest_word : List ℕ
digest_word = 100 ∷ 105 ∷ 103 ∷ 101 ∷ 115 ∷ 116 ∷ []

abbrev pub done_word : List ℕ
done_word = 100 ∷ 111 ∷ 110 ∷ 101 ∷ []

abbrev pub refused_word : List ℕ
refused_word = 114 ∷ 101 ∷ 102 ∷ 117 ∷ 115 ∷ 101 ∷ 100 ∷ []

abbrev pub at_word : List ℕ
at_word = 97 ∷ 116 ∷ []

-- `digest`, its number, its width, the digest and its quote.
unfoldable pub digest_line : ℕ → ℕ → List ℕ → List ℕ
digest_line number width digest = line (digest_word ∷ decimal number ∷ decimal width ∷ hex digest ∷ quote digest ∷ [])

-- `done` and the count of digests.
unfoldable pub done_line : ℕ → List ℕ
done_line count = line (done_word ∷ decimal count ∷ [])

-- `refused`, the number, `at` and the place.
unfoldable pub refused_line : ℕ → ℕ → List ℕ
refused_line number place = line (refused_word ∷ decimal number ∷ at_word ∷ decimal place ∷ [])
