-- What the functions below the run promise each other.
use Rattle.std.specs.Prelude.{cond, List, ◌≡◌, ℕ, ◌+◌, leb, length}
use Rattle.simd.specs.Basic.{digest_bytes}
use Rattle.simd.specs.Hash.{digest}
use Rattle.hash.specs.declared.Hash.{Hash}
use Rattle.text.specs.Text.{over}
use Rattle.reader.specs.declared.Reading.{Reading}
use Rattle.reader.specs.declared.Reading.TheVariants.{Found, Refused}
use Rattle.commands.specs.Standing.{Stands}
use Rattle.tape.specs.declared.Next.{Next}
use Rattle.tape.specs.declared.Next.TheVariants.{Taken, Ended}
use Rattle.tape.specs.declared.Ran.{Ran}

-- The digest of an open hash is written where it fits. 6: it does not.
pub record Finished (width : ℕ) (fed : List ℕ) (at : ℕ) (out exit : List ℕ) (next : Next) : Type 0 where
  pub answer : next ≡ cond (leb (digest_bytes width) (length out)) (Taken width (at + 1)) (Ended 6 at)
  pub buffer : exit ≡ cond (leb (digest_bytes width) (length out)) (over out 0 (digest width fed)) out

abbrev pub Finishes : Hash → ℕ → List ℕ → List ℕ → Next → Type 0
Finishes hash at out exit next = (width : ℕ) (fed : List ℕ) → Stands width fed hash → Finished width fed at out exit next

-- The end of a run at a reading with no command.
abbrev pub end_of : Reading → Next
end_of (Found command next) = Ended 0 0
end_of (Refused number place) = Ended number place

abbrev pub close_of : Next → ℕ → Ran
close_of (Taken width next) digests = record { digests = digests; refusal = 0; place = 0 }
close_of (Ended number place) digests = record { digests = digests; refusal = number; place = place }
