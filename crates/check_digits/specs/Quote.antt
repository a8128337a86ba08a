-- A quote: 16 hexadecimal digits of a digest's first 8 bytes, and two check digits behind them. It is text, a list of ASCII codes.
use Rattle.std.specs.Prelude.{Bool, true, ◌&&◌, List, [], ◌∷◌, ◌++◌, ℕ, suc, ◌+◌, ◌-◌, ◌*◌, ◌/◌, ◌%◌, ltb, eqb, length, get_or, take, drop, set}
use Rattle.text.specs.Text.{hex, digit_of}

-- The number that hexadecimal digits show, the first the highest; n is what those before them show.
unfoldable pub shown : ℕ → List ℕ → ℕ
shown n [] = n
shown n (c ∷ digits) = shown (16 * n + digit_of c) digits

abbrev pub number : List ℕ → ℕ
number digits = shown 0 digits

-- The check of a number, from 2 to 98 (ISO 7064, MOD 97-10).
unfoldable pub check : ℕ → ℕ
check n = 98 - (100 * n) % 97

-- A number below 100 in two decimal digits.
unfoldable pub two_digits : ℕ → List ℕ
two_digits n = (48 + n / 10) ∷ (48 + n % 10) ∷ []

-- The quote of a digest.
unfoldable pub quote : List ℕ → List ℕ
quote digest = let digits = hex (take 8 digest) in digits ++ two_digits (check (number digits))

-- Whether all characters are digits below k: below 16 hexadecimal ones in lower case, below 10 decimal ones.
unfoldable pub digits_below : ℕ → List ℕ → Bool
digits_below k [] = true
digits_below k (c ∷ text) = ltb (digit_of c) k && digits_below k text

-- The kind of a quote: 18 characters, 16 hexadecimal digits and 2 decimal ones.
unfoldable pub is_quote : List ℕ → Bool
is_quote text = eqb (length text) 18 && (digits_below 16 (take 16 text) && digits_below 10 (drop 16 text))

-- A right quote: one of this kind whose last two digits are the check of the number that the 16 show.
unfoldable pub is_right : List ℕ → Bool
is_right text = is_quote text && eqb (10 * digit_of (get_or text 16 0) + digit_of (get_or text 17 0)) (check (number (take 16 text)))

-- A text with the character at i and its right neighbour exchanged.
abbrev pub exchanged : List ℕ → ℕ → List ℕ
exchanged text i = set (set text i (get_or text (suc i) 0)) (suc i) (get_or text i 0)
