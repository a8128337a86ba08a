-- Lines printed in turn: what was printed and what is still to come make the listing.
use mathlib.Core.Bool.{true, false}
use mathlib.Core.List.{List, [], ◌++◌, append_assoc}
use mathlib.Core.Path.{◌≡◌, refl, sym, ap, ◌∙◌}
use Prim.Native.Nat.{ℕ, ◌+◌, ◌≤◌, ◌<◌}
use native.Mathlib.Omega.{arith}
use borrow.Author.Tests.{le-leb}
use lib.ListN.{length, take, drop}
use lib.Seq.{length-take-le, take_at}
use Rattle.text.specs.Text.{over}
use Rattle.listing.specs.Listing.{sealed, first_line, lines, listing, line_of, text_of}
use Rattle.listing.specs.declared.Line.{Line}
use Rattle.listing_theorems.proofs.InTurn.{line_more, line_ends, line_inside, by_length}

pub record Printing (tape : List ℕ) (at count : ℕ) : Type 0 where
  pub few : count ≤ at
  pub inside : at ≤ length tape
  pub printed : List ℕ
  pub listed : printed ++ lines count (sealed tape at) ≡ listing tape

-- Nothing was printed yet.
pub printing_none : (tape : List ℕ) → Printing tape 0 0
unfolding listing
printing_none tape = record { few = omega arith; inside = omega arith; printed = []; listed = refl }

-- A text with one more line: the line lies within it. Where more lines follow, the next place is a later one; where none follow, all is printed.
pub record Turn (tape text : List ℕ) (at count : ℕ) (line : Line) (exit printed : List ℕ) : Type 0 where
  pub room : line.length ≤ length exit
  pub part : take line.length exit ≡ first_line count (sealed tape at)
  pub size : line.length ≡ length (take line.length exit)
  pub forward : line.more ≡ true → at < line.next
  pub more : line.more ≡ true → Printing tape line.next (count + 1)
  pub end : line.more ≡ false → printed ++ take line.length exit ≡ listing tape

module _
    (tape text : List ℕ) (at count : ℕ) (p : Printing tape at count)
    (line : Line) (exit : List ℕ)
    (fits : 192 ≤ length text)
    (e : line ≡ line_of (length text) count (sealed tape at))
    (w : exit ≡ text_of text count (sealed tape at))
    (kept : length exit ≡ length text)
  where
    this : List ℕ
    this = first_line count (sealed tape at)

    line_size : line.length ≡ length this
    unfolding this line_of
    line_size =
        ap (λ (l : Line). l.length) e
        ∙ rw (le-leb 192 (length text) fits) (by_length (first_line count (sealed tape at)) (sealed tape at).entries)

    line_room : line.length ≤ length exit
    line_room = omega (arith, line_inside text exit count (sealed tape at) w kept, ap (λ (l : Line). l.length) e, kept)

    whole : exit ≡ over text 0 this
    unfolding this text_of
    whole = w ∙ rw (le-leb 192 (length text) fits)

    line_part : take line.length exit ≡ this
    line_part = (λ i. take (line_size i) (whole i)) ∙ take_at this (drop (0 + length this) text) (length this) refl

    follows : line.more ≡ true → Printing tape line.next (count + 1)
    unfolding this
    follows more =
        let c = line_more tape at count (length text) fits (ap (λ (l : Line). l.more) (sym e) ∙ more) in
        let next = ap (λ (l : Line). l.next) e in
        record {
          few = omega (arith, p.few, c.forward, next);
          inside = omega (arith, c.inside, next);
          printed = p.printed ++ this;
          listed =
              (λ i. p.printed ++ this ++ lines (count + 1) (sealed tape (next i)))
              ∙ append_assoc p.printed this (lines (count + 1) (sealed tape (line_of (length text) count (sealed tape at)).next))
              ∙ ap (λ (l : List ℕ). p.printed ++ l) (sym c.listed)
              ∙ p.listed;
        }

    all_printed : line.more ≡ false → p.printed ++ take line.length exit ≡ listing tape
    unfolding this
    all_printed last =
        let c = line_ends tape at count (length text) fits (ap (λ (l : Line). l.more) (sym e) ∙ last) in
        ap (λ (l : List ℕ). p.printed ++ l) (line_part ∙ sym c.listed) ∙ p.listed

    pub turn : Turn tape text at count line exit p.printed
    unfolding this
    turn =
        record {
          room = line_room;
          part = line_part;
          size = sym (length-take-le line.length exit line_room);
          forward =
              λ more.
              let c = line_more tape at count (length text) fits (ap (λ (l : Line). l.more) (sym e) ∙ more) in
              omega (arith, c.forward, ap (λ (l : Line). l.next) e);
          more = follows;
          end = all_printed;
        }
