-- Quotes, right and wrong, and refusals, as one table: each is a theorem that antt computes from the definition.
use Rattle.std.specs.Prelude.{true, false, List, [], ◌∷◌, ◌++◌, ◌≡◌, refl, ℕ, replicate}
use Rattle.text.specs.Text.{glyph, hex, digit_of}
use Rattle.check_digits.specs.Quote.{shown, check, two_digits, quote, digits_below, is_quote, is_right}
use Rattle.quote.specs.Call.{quote_refusal}

-- 28 bytes of which the eighth is n, the others 0.
abbrev eighth : ℕ → List ℕ
eighth n = replicate 7 0 ++ (n ∷ []) ++ replicate 20 0

-- 14 digits `0`, two more, and a check.
abbrev text : List ℕ → List ℕ
text last = replicate 14 48 ++ last

pub cases :
    -- N = 0 ends in 98, 1 in 95, 31 in 05, 32 in 02, 97 in 98
    (quote (eighth 0) ≡ text (48 ∷ 48 ∷ 57 ∷ 56 ∷ []))
    × (quote (eighth 1) ≡ text (48 ∷ 49 ∷ 57 ∷ 53 ∷ []))
    × (quote (eighth 31) ≡ text (49 ∷ 102 ∷ 48 ∷ 53 ∷ []))
    × (quote (eighth 32) ≡ text (50 ∷ 48 ∷ 48 ∷ 50 ∷ []))
    × (quote (eighth 97) ≡ text (54 ∷ 49 ∷ 57 ∷ 56 ∷ []))
    -- N = 2^64 - 1 ends in 15, whatever follows the eighth byte
    × (quote (replicate 8 255 ++ (1 ∷ 2 ∷ [])) ≡ replicate 16 102 ++ (49 ∷ 53 ∷ []))
    -- 0123456789abcdef ends in 81
    × (quote (1 ∷ 35 ∷ 69 ∷ 103 ∷ 137 ∷ 171 ∷ 205 ∷ 239 ∷ [])
    ≡ 48 ∷ 49 ∷ 50 ∷ 51 ∷ 52 ∷ 53 ∷ 54 ∷ 55 ∷ 56 ∷ 57 ∷ 97 ∷ 98 ∷ 99 ∷ 100 ∷ 101 ∷ 102 ∷ 56 ∷ 49 ∷ [])
    -- a right quote; the next check, a check 97 less than the right one, a capital
    × (is_right (text (49 ∷ 102 ∷ 48 ∷ 53 ∷ [])) ≡ true)
    × (is_right (text (49 ∷ 102 ∷ 48 ∷ 54 ∷ [])) ≡ false)
    × (is_right (text (48 ∷ 48 ∷ 48 ∷ 49 ∷ [])) ≡ false)
    × (is_right (text (49 ∷ 70 ∷ 48 ∷ 53 ∷ [])) ≡ false)
    -- of the kind with another check; a letter as a check digit, a character too few, one too many
    × (is_quote (text (49 ∷ 102 ∷ 48 ∷ 54 ∷ [])) ≡ true)
    × (is_quote (text (49 ∷ 102 ∷ 48 ∷ 97 ∷ [])) ≡ false)
    × (is_quote (text (49 ∷ 102 ∷ 48 ∷ [])) ≡ false)
    × (is_quote (text (49 ∷ 102 ∷ 48 ∷ 53 ∷ 48 ∷ [])) ≡ false)
    -- the order of the refusals, and both sides of each limit
    × (quote_refusal 160 [] 0 ≡ 1)
    × (quote_refusal 224 (replicate 27 0) 0 ≡ 7)
    × (quote_refusal 224 (replicate 29 0) 0 ≡ 7)
    × (quote_refusal 512 (replicate 64 0) 17 ≡ 6)
    × (quote_refusal 512 (replicate 64 0) 18 ≡ 0)
unfolding quote shown check two_digits hex glyph digit_of digits_below is_quote is_right quote_refusal
cases = (refl, refl, refl, refl, refl, refl, refl, refl, refl, refl, refl, refl, refl, refl, refl, refl, refl, refl, refl, refl)
