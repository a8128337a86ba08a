-- What was printed so far: nothing at first, and after one more line what was printed before it and that line.
use Rattle.std.proofs.Common.{true, ◌≡◌, ℕ, ◌+◌, ◌≤◌, List, [], ◌++◌, refl, sym, ap, ◌∙◌, append_assoc, arith}
use Rattle.std.proofs.lemmas.List.{append_cancel_right}
use Rattle.listing.specs.Listing.{sealed, first_line, lines, line_of, listing}
use Rattle.listing.specs.declared.Line.{Line}
use Rattle.listing_theorems.proofs.InTurn.{line_more}
use Rattle.listing_theorems.proofs.Printing.{Printing}

pub none : (tape : List ℕ) → (start : Printing tape 0 0) × (start.printed ≡ [])
unfolding listing
none tape = (record { few = omega arith; inside = omega arith; printed = []; listed = refl }, refl)

module _
    (tape : List ℕ) (at count room : ℕ) (fits : 192 ≤ room)
    (line : Line) (e : line ≡ line_of room count (sealed tape at)) (more : line.more ≡ true)
    (before : Printing tape at count) (after : Printing tape line.next (count + 1))
  where
    pub grown : after.printed ≡ before.printed ++ first_line count (sealed tape at)
    grown =
        let this = first_line count (sealed tape at) in
        let rest = lines (count + 1) (sealed tape line.next) in
        let c = line_more tape at count room fits (ap (λ (l : Line). l.more) (sym e) ∙ more) in
        let listed : lines count (sealed tape at) ≡ this ++ rest =
        c.listed ∙ ap (λ (l : Line). this ++ lines (count + 1) (sealed tape l.next)) (sym e) in
        append_cancel_right after.printed (before.printed ++ this) rest
        (after.listed ∙ sym before.listed ∙ ap (λ (l : List ℕ). before.printed ++ l) listed ∙ sym (append_assoc before.printed this rest))
