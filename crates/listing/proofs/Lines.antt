-- Laws of lines: the answers of `next_line` are those of the run from its place.
use mathlib.Core.Bool.{true, false}
use mathlib.Core.List.{List, append-nil}
use mathlib.Core.Path.{◌≡◌, sym, ap, ◌∙◌}
use Prim.Native.Nat.{ℕ, ◌+◌, ◌≤◌, ◌<◌}
use native.Mathlib.Omega.{arith}
use borrow.Author.Tests.{le-leb, lt-leb}
use lib.ListN.{length, take}
use lib.Seq.{take_at}
use Rattle.simd.specs.Basic.{digest_bytes}
use Rattle.simd.specs.Hash.{digest}
use Rattle.text.specs.Text.{over}
use Rattle.text.proofs.Over.{length_over}
use Rattle.lines.specs.Lines.{digest_line}
use Rattle.hash.proofs.Digests.{length_digest, digest_bounds}
use Rattle.commands.specs.Effect.{closed}
use Rattle.tape.specs.Run.{Entry, Run, ended, first, run_from, within, run_into, next_of, first_output, output}
use Rattle.tape.specs.declared.Next.{Next}
use Rattle.tape.specs.declared.Next.TheVariants.{Taken, Ended}
use Rattle.tape.proofs.Entries.{First, none, some, run_first}
use Rattle.tape.proofs.Done.{Took, took, within_ended, within_fits}
use Rattle.listing.specs.Listing.{sealed, line_of, text_of}
use Rattle.listing.specs.Ending.{end_text, end_line}
use Rattle.listing.specs.declared.Line.{Line}

module _ (tape : List ℕ) (at : ℕ) where
  -- A tape that is run, and one that is not.
  pub sealed_run : length tape ≤ 65536 → sealed tape at ≡ run_from tape at closed
  sealed_run short = rw (le-leb (length tape) 65536 short)

  pub sealed_long : 65536 < length tape → sealed tape at ≡ ended 13 65536
  sealed_long long = rw (lt-leb (length tape) 65536 long)

  -- With 64 bytes of room any digest fits, so that the run ends as it does with no limit.
  ended_by :
      (number place : ℕ) → Ended number place ≡ next_of (run_into 64 tape at) → First tape at (run_from tape at closed)
      → run_from tape at closed ≡ ended number place
  ended_by number place told (none n p e) =
      let this : Ended number place ≡ Ended n p = told ∙ ap (λ (r : Run). next_of (within 64 r)) e ∙ ap next_of (within_ended 64 n p) in
      let a : n ≡ number = cc in
      let b : p ≡ place = cc in
      e ∙ λ i. ended (a i) (b i)
  ended_by number place told (some e known from below later) =
      let here = ap (within 64) later ∙ within_fits 64 e (run_from tape (e.place + 1) closed) (digest_bounds e.width known).0 in
      let this : Ended number place ≡ Taken e.width (e.place + 1) = told ∙ ap next_of here in
      let no : ◌≡◌ {A = ℕ} 0 1 = cc in
      absurd (omega arith)

-- The digest lies at the front of the 64 bytes lent.
pub record Lent (tape : List ℕ) (at width next : ℕ) (buffer : List ℕ) : Type 0 where
  pub took : Took tape at 64 width next
  pub small : (digest_bytes width ≤ 64) × (8 ≤ digest_bytes width)
  pub long : length buffer ≡ 64
  pub bytes : take (digest_bytes width) buffer ≡ digest took.entry.width took.entry.fed
  pub size : length (take (digest_bytes width) buffer) ≡ digest_bytes width

pub lent :
    (tape : List ℕ) (at width next : ℕ) (z buffer : List ℕ) → 64 ≡ length z → Taken width next ≡ next_of (run_into (length z) tape at)
    → buffer ≡ over z 0 (first_output (run_into (length z) tape at)) → Lent tape at width next buffer
unfolding output
lent tape at width next z buffer room told wrote =
    let t = took tape at 64 (told ∙ ap (λ (k : ℕ). next_of (run_into k tape at)) (sym room)) in
    let e = t.entry in
    let s = digest e.width e.fed in
    let small = digest_bounds width t.known in
    let size : length s ≡ digest_bytes width = length_digest e.width (rw t.of t.known) e.fed ∙ ap digest_bytes t.of in
    let all : buffer ≡ over z 0 s =
    wrote
    ∙ ap (λ (k : ℕ). over z 0 (first_output (run_into k tape at))) (sym room)
    ∙ ap (λ (r : Run). over z 0 (first_output r)) t.same
    ∙ ap (over z 0) (append-nil s) in
    let front : take (digest_bytes width) buffer ≡ s = ap (take (digest_bytes width)) all ∙ take_at s _ (digest_bytes width) size in
    record {
      took = t;
      small = small;
      long = ap length all ∙ length_over z 0 s (omega (arith, size, small.0)) ∙ sym room;
      bytes = front;
      size = ap length front ∙ size;
    }

-- The answers of a run.
abbrev pub Answers : List ℕ → ℕ → Run → Line → List ℕ → Type 0
Answers text count run line exit = (line ≡ line_of (length text) count run) × (exit ≡ text_of text count run)

module _ (text : List ℕ) (count : ℕ) (run : Run) where
  pub line_short : length text < 192 → Answers text count run (record { refusal = 6; length = 0; next = 0; more = false }) text
  unfolding line_of text_of
  line_short short = (rw (lt-leb 192 (length text) short), rw (lt-leb 192 (length text) short))

  line_ended :
      (number place : ℕ) → run ≡ ended number place → 192 ≤ length text
      → Answers text count run (end_line (Ended number place) count) (over text 0 (end_text (Ended number place) count))
  unfolding line_of text_of
  line_ended number place e room = (rw (e, le-leb 192 (length text) room), rw (e, le-leb 192 (length text) room))

  line_first :
      (e : Entry) (rest : Run) → run ≡ first e rest → 192 ≤ length text →
      let line = digest_line (count + 1) e.width (digest e.width e.fed) in
      Answers text count run (record { refusal = 0; length = length line; next = e.place + 1; more = true }) (over text 0 line)
  unfolding line_of text_of
  line_first e rest same room = (rw (same, le-leb 192 (length text) room), rw (same, le-leb 192 (length text) room))

-- The last line: of a tape that is too long, and of a run that ended.
module _ (tape : List ℕ) (at : ℕ) (text : List ℕ) (count : ℕ) (room : 192 ≤ length text) where
  pub line_long :
      65536 < length tape
      → Answers text count (sealed tape at) (end_line (Ended 13 65536) count) (over text 0 (end_text (Ended 13 65536) count))
  line_long long = line_ended text count (sealed tape at) 13 65536 (sealed_long tape at long) room

  pub line_last :
      (z : List ℕ) (end : Next) (number place : ℕ) → length tape ≤ 65536 → 64 ≡ length z → end ≡ Ended number place
      → end ≡ next_of (run_into (length z) tape at) → Answers text count (sealed tape at) (end_line end count) (over text 0 (end_text end count))
  line_last z end number place short long told answer =
      let same = sym told ∙ answer ∙ ap (λ (k : ℕ). next_of (run_into k tape at)) (sym long) in
      let run = sealed_run tape at short ∙ ended_by tape at number place same (run_first tape at) in
      let l = line_ended text count (sealed tape at) number place run room in (
        ap (λ (n : Next). end_line n count) told ∙ l.0,
        ap (λ (n : Next). over text 0 (end_text n count)) told ∙ l.1,
      )

  -- The line of a digest.
  pub line_digest :
      {width next : ℕ} {buffer : List ℕ} → Lent tape at width next buffer → length tape ≤ 65536 →
      let line = digest_line (count + 1) width (take (digest_bytes width) buffer) in
      Answers text count (sealed tape at) (record { refusal = 0; length = length line; next = next; more = true }) (over text 0 line)
  line_digest {width} {next} {buffer} l short =
      let t = l.took in
      let first = line_first text count (sealed tape at) t.entry (run_from tape next closed) (sealed_run tape at short ∙ t.whole) room in
      let line :
      digest_line (count + 1) width (take (digest_bytes width) buffer)
      ≡ digest_line (count + 1) t.entry.width (digest t.entry.width t.entry.fed) =
      λ i. digest_line (count + 1) (sym t.of i) (l.bytes i) in (
        (λ i. record { refusal = 0; length = length (line i); next = sym t.before i; more = true }) ∙ first.0,
        ap (over text 0) line ∙ first.1,
      )
