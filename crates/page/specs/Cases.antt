-- Entries and refusals, as one table: each is a theorem that antt computes from the definition.
use Rattle.std.specs.Prelude.{[], ◌∷◌, ◌++◌, ◌≡◌, refl, replicate}
use Rattle.text.specs.Text.{digits, decimal, glyph, hex}
use Rattle.hash.specs.Open.{first}
use Rattle.ledger.specs.Page.{spaces, right, left, line, number_columns, width_columns, front, entry_lines, entry_bytes, entry_refusal, print_refusal}

pub cases :
    -- `     0 224 `, 56 digits and 8 spaces
    (entry_lines 0 224 (replicate 28 171)
    ≡ spaces 5 ++ (48 ∷ 32 ∷ 50 ∷ 50 ∷ 52 ∷ 32 ∷ []) ++ hex (replicate 28 171) ++ spaces 8 ++ (10 ∷ []))
    -- `    10 256 ` and 64 digits
    × (entry_lines 10 256 (replicate 32 15) ≡ spaces 4 ++ (49 ∷ 48 ∷ 32 ∷ 50 ∷ 53 ∷ 54 ∷ 32 ∷ []) ++ hex (replicate 32 15) ++ (10 ∷ []))
    -- `999999 384 ` and 64 digits; 11 spaces, 32 digits and 32 spaces
    × (entry_lines 999999 384 (replicate 48 7)
    ≡ (57 ∷ 57 ∷ 57 ∷ 57 ∷ 57 ∷ 57 ∷ 32 ∷ 51 ∷ 56 ∷ 52 ∷ 32 ∷ []) ++ hex (replicate 32 7) ++ (10 ∷ [])
    ++ spaces 11 ++ hex (replicate 16 7) ++ spaces 32 ++ (10 ∷ []))
    -- two lines filled with digits
    × (entry_lines 7 512 (replicate 64 255)
    ≡ spaces 5 ++ (55 ∷ 32 ∷ 53 ∷ 49 ∷ 50 ∷ 32 ∷ []) ++ replicate 64 102 ++ (10 ∷ []) ++ spaces 11 ++ replicate 64 102 ++ (10 ∷ []))
    -- the order of the refusals, and both sides of each limit
    × (print_refusal 1000000 160 [] 0 ≡ 1)
    × (print_refusal 1000000 224 (replicate 27 0) 0 ≡ 7)
    × (print_refusal 1000000 224 (replicate 29 0) 0 ≡ 7)
    × (print_refusal 1000000 224 (replicate 28 0) 0 ≡ 14)
    × (print_refusal 999999 224 (replicate 28 0) 75 ≡ 6)
    × (print_refusal 999999 224 (replicate 28 0) 76 ≡ 0)
    × (print_refusal 0 384 (replicate 48 0) 151 ≡ 6)
    × (print_refusal 0 384 (replicate 48 0) 152 ≡ 0)
unfolding entry_lines line front number_columns width_columns right left decimal digits hex glyph print_refusal entry_refusal entry_bytes first
cases = (refl, refl, refl, refl, refl, refl, refl, refl, refl, refl, refl, refl)
