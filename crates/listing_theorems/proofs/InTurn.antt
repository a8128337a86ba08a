-- The theorem that the lines in turn are the listing.
use mathlib.Core.Bool.{true, false}
use mathlib.Core.List.{List, [], ◌∷◌, ◌++◌}
use mathlib.Core.Path.{◌≡◌, refl, sym, ap, ◌∙◌, subst}
use Prim.Native.Nat.{ℕ, ◌+◌, ◌-◌, ◌≤◌, ◌<◌}
use native.Mathlib.Omega.{arith}
use native.Mathlib.Decide.{dec_le}
use borrow.Author.Tests.{le-leb, lt-leb}
use lib.Dec.{T}
use lib.ListN.{length, drop, length-append, length-drop}
use Rattle.text.specs.Text.{over}
use Rattle.commands.specs.Effect.{closed}
use Rattle.tape.specs.Run.{Entry, Run, ended, first, run_from}
use Rattle.tape.proofs.Entries.{First, none, some, run_first}
use Rattle.listing.specs.Listing.{sealed, first_line, lines_by, lines, line_by, line_of, text_of}
use Rattle.listing.specs.declared.Line.{Line}
use Rattle.listing.proofs.Lines.{sealed_run, sealed_long}

-- Where more lines follow a line, they are those from the next place on, which is a later one of the tape; where none follow, it is the last.
pub record Continues (tape : List ℕ) (at count next : ℕ) : Type 0 where
  pub forward : at < next
  pub inside : next ≤ length tape
  pub listed : lines count (sealed tape at) ≡ first_line count (sealed tape at) ++ lines (count + 1) (sealed tape next)

pub record Ends (tape : List ℕ) (at count : ℕ) : Type 0 where
  pub listed : lines count (sealed tape at) ≡ first_line count (sealed tape at)

lines_first : (count : ℕ) (e : Entry) (run : Run) → lines count (first e run) ≡ first_line count (first e run) ++ lines (count + 1) run
unfolding lines lines_by
lines_first count e run = refl

lines_last : (count number place : ℕ) → lines count (ended number place) ≡ first_line count (ended number place)
unfolding lines lines_by
lines_last count number place = refl

data Shape (tape : List ℕ) (at : ℕ) : Type 0 where
  stop : (number place : ℕ) → sealed tape at ≡ ended number place → Shape tape at
  go : (e : Entry) → at ≤ e.place → e.place < length tape → sealed tape at ≡ first e (sealed tape (e.place + 1)) → Shape tape at

shape_by : (tape : List ℕ) (at : ℕ) → length tape ≤ 65536 → First tape at (run_from tape at closed) → Shape tape at
shape_by tape at short (none number place e) = stop number place (sealed_run tape at short ∙ e)
shape_by tape at short (some e known from below later) =
    go e from below (sealed_run tape at short ∙ later ∙ ap (first e) (sym (sealed_run tape (e.place + 1) short)))

shape : (tape : List ℕ) (at : ℕ) → Shape tape at
shape tape at =
    elim (dec_le (length tape) 65536) [
      | yes short ↦ shape_by tape at short (run_first tape at)
      | no long ↦ stop 13 65536 (sealed_long tape at (omega arith))
    ]

module _ (tape : List ℕ) (at count room : ℕ) (fits : 192 ≤ room) where
  abbrev line : Line
  line = line_of room count (sealed tape at)

  line_is : (run : Run) → sealed tape at ≡ run → line ≡ line_by (first_line count run) run.entries
  unfolding line_of
  line_is run e = rw (e, le-leb 192 room fits)

  more_by : line.more ≡ true → Shape tape at → Continues tape at count line.next
  more_by more (stop number place e) =
      let this = ap (λ (l : Line). l.more) (line_is (ended number place) e) in
      let no : false ≡ true = sym this ∙ more in
      absurd (subst T (sym no) tt)
  more_by more (go x from below e) =
      let this : line.next ≡ x.place + 1 = ap (λ (l : Line). l.next) (line_is (first x (sealed tape (x.place + 1))) e) in
      record {
        forward = omega arith;
        inside = omega arith;
        listed =
            ap (lines count) e
            ∙ lines_first count x (sealed tape (x.place + 1))
            ∙ (λ i. first_line count (sym e i) ++ lines (count + 1) (sealed tape (sym this i)));
      }

  end_by : line.more ≡ false → Shape tape at → Ends tape at count
  end_by end (stop number place e) =
      record { listed = ap (lines count) e ∙ lines_last count number place ∙ ap (first_line count) (sym e) }
  end_by end (go x from below e) =
      let this = ap (λ (l : Line). l.more) (line_is (first x (sealed tape (x.place + 1))) e) in
      let no : true ≡ false = sym this ∙ end in
      absurd (subst T no tt)

  pub line_more : line.more ≡ true → Continues tape at count line.next
  line_more more = more_by more (shape tape at)

  pub line_ends : line.more ≡ false → Ends tape at count
  line_ends end = end_by end (shape tape at)

-- A line lies within the text lent.
pub by_length : (line : List ℕ) (entries : List Entry) → (line_by line entries).length ≡ length line
by_length line [] = refl
by_length line (e ∷ entries) = refl

over_length : (t s : List ℕ) → length (over t 0 s) ≡ length s + (length t - (0 + length s))
over_length t s = length-append s (drop (0 + length s) t) ∙ ap (λ (k : ℕ). length s + k) (length-drop (0 + length s) t)

pub line_inside :
    (text exit : List ℕ) (count : ℕ) (run : Run) → exit ≡ text_of text count run → length exit ≡ length text
    → (line_of (length text) count run).length ≤ length text
unfolding line_of text_of
line_inside text exit count run e kept =
    elim (dec_le 192 (length text)) [
      | yes fits ↦
          let t = le-leb 192 (length text) fits in
          let whole : exit ≡ over text 0 (first_line count run) = e ∙ rw t in
          rw t (omega (arith, by_length (first_line count run) run.entries, ap length whole, over_length text (first_line count run), kept))
      | no short ↦ rw (lt-leb 192 (length text) (omega arith)) (omega arith)
    ]
