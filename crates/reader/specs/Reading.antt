-- The commands of a tape, and what the reader answers at a place of it. Places count bytes from 0.
use Rattle.std.specs.Prelude.{cond, List, ℕ, ◌+◌, ◌*◌, ◌≤◌, leb, eqb, length, get_or}
use Rattle.reader.specs.declared.Command.{Command}
use Rattle.reader.specs.declared.Command.TheVariants.{Open, Full, Part, Take, Stop}
use Rattle.reader.specs.declared.Reading.{Reading}
use Rattle.reader.specs.declared.Reading.TheVariants.{Found, Refused}

-- A command of so many bytes, and the place after it. 11: the tape ends in it.
abbrev pub whole : List ℕ → ℕ → ℕ → Command → Reading
whole tape at size command = cond (leb (at + size) (length tape)) (Found command (at + size)) (Refused 11 at)

-- Each command by its first byte, with its size and its values. 10: no such byte.
abbrev pub read_by : List ℕ → ℕ → ℕ → Reading
read_by tape at byte =
    cond (eqb byte 1) (whole tape at 3 (Open (get_or tape (at + 1) 0 + 256 * get_or tape (at + 2) 0)))
    (cond (eqb byte 2) (whole tape at 33 (Full (at + 1)))
    (cond (eqb byte 3) (whole tape at 34 (Part (get_or tape (at + 1) 0) (at + 2)))
    (cond (eqb byte 4) (whole tape at 1 Take)
    (cond (eqb byte 5) (whole tape at 1 Stop)
    (Refused 10 at)))))

-- What stands at a place. 11 at the tape's length: no byte is left.
unfoldable pub read_at : List ℕ → ℕ → Reading
read_at tape at = cond (leb (length tape) at) (Refused 11 (length tape)) (read_by tape at (get_or tape at 0))

-- The 32 bytes of a command lie within the tape.
abbrev pub Inside : List ℕ → Command → Type 0
Inside tape (Open width) = Unit {0}
Inside tape (Full place) = place + 32 ≤ length tape
Inside tape (Part count place) = place + 32 ≤ length tape
Inside tape Take = Unit {0}
Inside tape Stop = Unit {0}
