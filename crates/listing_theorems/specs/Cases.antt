-- Listings of short tapes, as one table: each is a theorem that antt computes from the definitions.
use Rattle.std.specs.Prelude.{[], ◌∷◌, ◌++◌, ◌≡◌, refl, replicate}
use Rattle.simd.specs.Basic.{table}
use Rattle.simd.specs.Message.{bits_of, message}
use Rattle.reader.specs.Reading.{read_at}
use Rattle.text.specs.Text.{digits, decimal}
use Rattle.lines.specs.Lines.{line, done_line, refused_line}
use Rattle.commands.specs.Effect.{feeding, effect}
use Rattle.tape.specs.Run.{run_for, run_from}
use Rattle.listing.specs.Listing.{lines_by, lines, listing}

pub cases :
    -- OPEN 256, PART of 1 bit, OPEN: `refused 12 at 37`
    (listing (1 ∷ 0 ∷ 1 ∷ 3 ∷ 1 ∷ 128 ∷ (replicate 31 0 ++ (1 ∷ 0 ∷ 1 ∷ [])))
    ≡ 114 ∷ 101 ∷ 102 ∷ 117 ∷ 115 ∷ 101 ∷ 100 ∷ 32 ∷ 49 ∷ 50 ∷ 32 ∷ 97 ∷ 116 ∷ 32 ∷ 51 ∷ 55 ∷ 10 ∷ [])
    -- STOP: `done 0`. With a hash open, and with bytes after it
    × (listing (5 ∷ []) ≡ 100 ∷ 111 ∷ 110 ∷ 101 ∷ 32 ∷ 48 ∷ 10 ∷ [])
    × (listing (1 ∷ 0 ∷ 1 ∷ 5 ∷ []) ≡ done_line 0)
    × (listing (5 ∷ 9 ∷ []) ≡ done_line 0)
    -- no such byte
    × (listing (0 ∷ []) ≡ refused_line 10 0)
    × (listing (1 ∷ 0 ∷ 1 ∷ 6 ∷ []) ≡ refused_line 10 3)
    -- no byte is left, and a tape that ends in OPEN, FULL and PART
    × (listing [] ≡ refused_line 11 0)
    × (listing (1 ∷ 0 ∷ 1 ∷ []) ≡ refused_line 11 3)
    × (listing (1 ∷ 0 ∷ []) ≡ refused_line 11 0)
    × (listing (2 ∷ replicate 31 0) ≡ refused_line 11 0)
    × (listing (3 ∷ replicate 32 0) ≡ refused_line 11 0)
    -- FULL, PART and TAKE with no hash open
    × (listing (2 ∷ replicate 32 0) ≡ refused_line 12 0)
    × (listing (3 ∷ replicate 33 0) ≡ refused_line 12 0)
    × (listing (4 ∷ []) ≡ refused_line 12 0)
    -- no such width
    × (listing (1 ∷ 255 ∷ 0 ∷ []) ≡ refused_line 1 0)
    -- all past the count of PART is ignored: OPEN 256, PART of 1 bit with all bits set, OPEN
    × (listing (1 ∷ 0 ∷ 1 ∷ 3 ∷ 1 ∷ (replicate 32 255 ++ (1 ∷ 0 ∷ 1 ∷ []))) ≡ refused_line 12 37)
unfolding listing lines lines_by run_from run_for read_at effect feeding message bits_of table done_line refused_line line decimal digits
cases =
    (refl, refl, refl, refl, refl, refl, refl, refl, refl, refl, refl, refl, refl, refl, refl, refl)
