-- What the function of the last line promises the one above it.
use Rattle.std.specs.Prelude.{false, List, [], ℕ, length}
use Rattle.tape.specs.declared.Next.{Next}
use Rattle.tape.specs.declared.Next.TheVariants.{Taken, Ended}
use Rattle.listing.specs.Listing.{last_line}
use Rattle.listing.specs.declared.Line.{Line}

abbrev pub end_text : Next → ℕ → List ℕ
end_text (Taken width next) count = []
end_text (Ended number place) count = last_line count number place

abbrev pub end_line : Next → ℕ → Line
end_line end count = record { refusal = 0; length = length (end_text end count); next = 0; more = false }
