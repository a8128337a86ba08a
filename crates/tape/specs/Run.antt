-- What a tape means: the digests of its TAKEs in order, and how it ends.
use Rattle.std.specs.Prelude.{cond, List, [], ◌∷◌, ◌++◌, ℕ, zero, suc, ◌+◌, ◌-◌, leb, length, take}
use Rattle.simd.specs.Basic.{digest_bytes}
use Rattle.simd.specs.Hash.{digest}
use Rattle.reader.specs.declared.Reading.{Reading}
use Rattle.reader.specs.declared.Reading.TheVariants.{Found, Refused}
use Rattle.reader.specs.Reading.{read_at}
pub use Rattle.commands.specs.Effect.{Hashing, closed, opened, Effect, goes, takes, stops, refuses}
unfoldable pub use Rattle.commands.specs.Effect.{effect}
use Rattle.tape.specs.declared.Next.{Next}
use Rattle.tape.specs.declared.Next.TheVariants.{Taken, Ended}
use Rattle.tape.specs.declared.Ran.{Ran}

-- A TAKE: the width and the bits that were fed since its OPEN, and its place.
pub record Entry : Type 0 where
  pub width : ℕ
  pub fed : List ℕ
  pub place : ℕ

-- A run: its TAKEs in order, and the refusal's number and place, or 0 and 0 where it stopped.
pub record Run : Type 0 where
  pub entries : List Entry
  pub number : ℕ
  pub place : ℕ

abbrev pub ended : ℕ → ℕ → Run
ended number place = record { entries = []; number = number; place = place }

abbrev pub first : Entry → Run → Run
first entry run = record { entries = entry ∷ run.entries; number = run.number; place = run.place }

-- The run from a command on, where `go` is the run from a later place with a hash.
abbrev pub follow : (ℕ → Hashing → Run) → ℕ → ℕ → Effect → Run
follow go at next (goes hashing) = go next hashing
follow go at next (takes width fed) = first (record { width = width; fed = fed; place = at }) (go next closed)
follow go at next stops = ended 0 0
follow go at next (refuses number) = ended number at

abbrev pub after : (ℕ → Hashing → Run) → List ℕ → ℕ → Hashing → Reading → Run
after go tape at hashing (Found command next) = follow go at next (effect tape hashing command)
after go tape at hashing (Refused number place) = ended number place

-- A run of at most so many commands. A command has a byte at least, so one more than the tape's length is enough.
unfoldable pub run_for : ℕ → List ℕ → ℕ → Hashing → Run
run_for zero tape at hashing = ended 11 (length tape)
run_for (suc most) tape at hashing = after (run_for most tape) tape at hashing (read_at tape at)

unfoldable pub run_from : List ℕ → ℕ → Hashing → Run
run_from tape at hashing = run_for (suc (length tape)) tape at hashing

-- A run whose digests go into so many bytes. 6: the next one does not fit.
unfoldable pub fit : ℕ → List Entry → ℕ → ℕ → Run
fit room [] number place = ended number place
fit room (e ∷ entries) number place =
    cond (leb (digest_bytes e.width) room) (first e (fit (room - digest_bytes e.width) entries number place)) (ended 6 e.place)

unfoldable pub within : ℕ → Run → Run
within room run = fit room run.entries run.number run.place

-- The run of a tape from a place at which no hash is open, with so many bytes for its digests.
abbrev pub run_into : ℕ → List ℕ → ℕ → Run
run_into room tape at = within room (run_from tape at closed)

-- The digests, straight after each other.
unfoldable pub output : List Entry → List ℕ
output [] = []
output (e ∷ entries) = digest e.width e.fed ++ output entries

-- The answer of a whole run: the count of digests, the refusal's number and place.
abbrev pub ran_of : Run → Ran
ran_of run = record { digests = length run.entries; refusal = run.number; place = run.place }

-- The answer of a run as far as its first TAKE: its width and the place after it, or how the run ends before one. Then what it writes.
abbrev pub next_by : List Entry → ℕ → ℕ → Next
next_by [] number place = Ended number place
next_by (e ∷ entries) number place = Taken e.width (e.place + 1)

abbrev pub next_of : Run → Next
next_of run = next_by run.entries run.number run.place

abbrev pub first_output : Run → List ℕ
first_output run = output (take 1 run.entries)
