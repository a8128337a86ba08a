-- What `seal` prints for a tape: a line for each TAKE, and a last line.
use Rattle.std.specs.Prelude.{true, false, cond, List, [], ◌∷◌, ◌++◌, ℕ, ◌+◌, leb, eqb, length}
use Rattle.simd.specs.Hash.{digest}
use Rattle.text.specs.Text.{over}
use Rattle.lines.specs.Lines.{digest_line, done_line, refused_line}
use Rattle.tape.specs.Run.{closed, Entry, Run, ended, run_from}
use Rattle.listing.specs.declared.Line.{Line}

-- 13: a tape of more than 65,536 bytes is refused at 65536, and nothing is run.
abbrev pub sealed : List ℕ → ℕ → Run
sealed tape at = cond (leb (length tape) 65536) (run_from tape at closed) (ended 13 65536)

-- The last line, after so many digests.
abbrev pub last_line : ℕ → ℕ → ℕ → List ℕ
last_line count number place = cond (eqb number 0) (done_line count) (refused_line number place)

-- The first line of a run after so many digests, and all of its lines.
abbrev pub first_by : ℕ → List Entry → ℕ → ℕ → List ℕ
first_by count [] number place = last_line count number place
first_by count (e ∷ entries) number place = digest_line (count + 1) e.width (digest e.width e.fed)

abbrev pub first_line : ℕ → Run → List ℕ
first_line count run = first_by count run.entries run.number run.place

unfoldable pub lines_by : ℕ → List Entry → ℕ → ℕ → List ℕ
lines_by count [] number place = first_by count [] number place
lines_by count (e ∷ entries) number place = first_by count (e ∷ entries) number place ++ lines_by (count + 1) entries number place

unfoldable pub lines : ℕ → Run → List ℕ
lines count run = lines_by count run.entries run.number run.place

-- All that is printed.
unfoldable pub listing : List ℕ → List ℕ
listing tape = lines 0 (sealed tape 0)

-- The answer to one line: its length, the place after it, and whether more lines follow. 6: a text of fewer than 192 bytes.
abbrev pub line_by : List ℕ → List Entry → Line
line_by text [] = record { refusal = 0; length = length text; next = 0; more = false }
line_by text (e ∷ entries) = record { refusal = 0; length = length text; next = e.place + 1; more = true }

unfoldable pub line_of : ℕ → ℕ → Run → Line
line_of room count run =
    cond (leb 192 room) (line_by (first_line count run) run.entries) (record { refusal = 6; length = 0; next = 0; more = false })

unfoldable pub text_of : List ℕ → ℕ → Run → List ℕ
text_of text count run = cond (leb 192 (length text)) (over text 0 (first_line count run)) text
