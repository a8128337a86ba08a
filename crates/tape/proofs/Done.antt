-- The digests written so far, and the rest of the run.
use mathlib.Core.Bool.{true}
use mathlib.Core.List.{List, [], ◌∷◌, ◌++◌, append_assoc, append-nil}
use mathlib.Core.Path.{◌≡◌, refl, sym, ap, ◌∙◌}
use Prim.Native.Nat.{ℕ, ◌+◌, ◌-◌, ◌≤◌, ◌<◌}
use native.Mathlib.Nat.{sub-zero}
use native.Mathlib.Omega.{arith}
use native.Mathlib.Decide.{dec_le}
use borrow.Author.Tests.{le-leb, lt-leb}
use lib.ListN.{length, take, drop, length-append, length-drop, drop_of_length-le}
use lib.Seq.{take_all}
use Rattle.simd.specs.Basic.{is_width, digest_bytes}
use Rattle.simd.specs.Hash.{digest}
use Rattle.text.specs.Text.{over}
use Rattle.text.proofs.Over.{over_nil, over_over, over_part, length_over}
use Rattle.hash.proofs.Digests.{length_digest}
use Rattle.commands.specs.Effect.{closed}
use Rattle.tape.specs.Run.{Entry, Run, ended, first, run_from, fit, within, run_into, output, ran_of, next_by, next_of, first_output}
use Rattle.tape.specs.Standing.{close_of}
use Rattle.tape.specs.declared.Next.{Next}
use Rattle.tape.specs.declared.Next.TheVariants.{Taken, Ended}
use Rattle.tape.proofs.Entries.{First, none, some, run_first}

-- The first TAKE of a run with so much room.
pub record Took (tape : List ℕ) (at room width next : ℕ) : Type 0 where
  pub entry : Entry
  pub of : entry.width ≡ width
  pub before : entry.place + 1 ≡ next
  pub known : is_width width ≡ true
  pub from : at ≤ entry.place
  pub below : entry.place < length tape
  pub room_left : digest_bytes width ≤ room
  pub whole : run_from tape at closed ≡ first entry (run_from tape next closed)
  pub same : run_into room tape at ≡ first entry (run_into (room - digest_bytes width) tape next)

pub within_ended : (room number place : ℕ) → within room (ended number place) ≡ ended number place
unfolding within fit
within_ended room number place = refl

pub within_fits :
    (room : ℕ) (e : Entry) (rest : Run) → digest_bytes e.width ≤ room
    → within room (first e rest) ≡ first e (within (room - digest_bytes e.width) rest)
unfolding within fit
within_fits room e rest fits = rw (le-leb (digest_bytes e.width) room fits)

within_short : (room : ℕ) (e : Entry) (rest : Run) → room < digest_bytes e.width → within room (first e rest) ≡ ended 6 e.place
unfolding within fit
within_short room e rest short = rw (lt-leb (digest_bytes e.width) room short)

module _ (tape : List ℕ) (at room : ℕ) where
  not_taken :
      {number place width next : ℕ} → run_into room tape at ≡ ended number place
      → Taken width next ≡ next_of (run_into room tape at) → ⊥
  not_taken {number} {place} {width} {next} e told =
      let this : Taken width next ≡ Ended number place = told ∙ ap next_of e in
      let no : ◌≡◌ {A = ℕ} 0 1 = cc in
      omega arith

  took_by :
      {width next : ℕ} → Taken width next ≡ next_of (run_into room tape at) → First tape at (run_from tape at closed)
      → Took tape at room width next
  took_by told (none number place e) = absurd (not_taken (ap (within room) e ∙ within_ended room number place) told)
  took_by {width} {next} told (some e known from below later) =
      let rest = run_from tape (e.place + 1) closed in
      elim (dec_le (digest_bytes e.width) room) [
        | yes fits ↦
            let here = ap (within room) later ∙ within_fits room e rest fits in
            let this : Taken width next ≡ Taken e.width (e.place + 1) = told ∙ ap next_of here in
            let w : e.width ≡ width = cc in
            let p : e.place + 1 ≡ next = cc in
            record {
              entry = e;
              of = w;
              before = p;
              known = rw w at known;
              from = from;
              below = below;
              room_left = rw w at fits;
              whole = later ∙ ap (λ (k : ℕ). first e (run_from tape k closed)) p;
              same = here ∙ (λ i. first e (run_into (room - digest_bytes (w i)) tape (p i)));
            }
        | no short ↦ absurd (not_taken (ap (within room) later ∙ within_short room e rest (omega arith)) told)
      ]

  pub took : {width next : ℕ} → Taken width next ≡ next_of (run_into room tape at) → Took tape at room width next
  took told = took_by told (run_first tape at)

-- A run that ended before a TAKE.
over_by :
    (run : Run) (number place : ℕ) → Ended number place ≡ next_of run → (entries : List Entry) → run.entries ≡ entries
    → run ≡ ended number place
over_by run number place told [] e =
    let this : Ended number place ≡ Ended run.number run.place =
    told ∙ ap (λ (l : List Entry). next_by l run.number run.place) e in
    let n : run.number ≡ number = cc in
    let p : run.place ≡ place = cc in
    λ i. record { entries = e i; number = n i; place = p i }
over_by run number place told (x ∷ entries) e =
    let this : Ended number place ≡ Taken x.width (x.place + 1) =
    told ∙ ap (λ (l : List Entry). next_by l run.number run.place) e in
    let no : ◌≡◌ {A = ℕ} 0 1 = cc in
    absurd (omega arith)

pub ended_run : (run : Run) (number place : ℕ) → Ended number place ≡ next_of run → run ≡ ended number place
ended_run run number place told = over_by run number place told run.entries refl

-- A run after TAKEs before it.
abbrev onto : List Entry → Run → Run
onto entries run = record { entries = entries ++ run.entries; number = run.number; place = run.place }

onto_last : (entries : List Entry) (e : Entry) (run : Run) → onto (entries ++ (e ∷ [])) run ≡ onto entries (first e run)
onto_last entries e run =
    ap (λ (l : List Entry). record { entries = l; number = run.number; place = run.place })
    (append_assoc entries (e ∷ []) run.entries)

output_append : (a b : List Entry) → output (a ++ b) ≡ output a ++ output b
unfolding output
output_append [] b = refl
output_append (e ∷ a) b =
    ap (λ (l : List ℕ). digest e.width e.fed ++ l) (output_append a b)
    ∙ sym (append_assoc (digest e.width e.fed) (output a) (output b))

pub record Done (tape out₀ out : List ℕ) (at used digests : ℕ) : Type 0 where
  pub entries : List Entry
  pub count : digests ≡ length entries
  pub size : used ≡ length (output entries)
  pub long : length out ≡ length out₀
  pub room : used ≤ length out
  pub few : digests ≤ at
  pub inside : at ≤ length tape
  pub buffer : out ≡ over out₀ 0 (output entries)
  pub same : run_into (length out₀) tape 0 ≡ onto entries (run_into (length out - used) tape at)

pub done_none : (tape out : List ℕ) → Done tape out out 0 0 0
unfolding output
done_none tape out =
    record {
      entries = [];
      count = refl;
      size = refl;
      long = refl;
      room = omega arith;
      few = omega arith;
      inside = omega arith;
      buffer = sym (over_nil out 0);
      same = ap (λ (k : ℕ). run_into k tape 0) (sym (sub-zero (length out)));
    }

-- The output's part from a place on, as it is lent, and the output with that part given back.
abbrev pub lent : List ℕ → ℕ → List ℕ
lent out used = take (length out - used) (drop used out)

abbrev pub back : List ℕ → ℕ → List ℕ → List ℕ
back out used part = take used out ++ (part ++ drop (length out - used) (drop used out))

lent_all : (out : List ℕ) (used : ℕ) → lent out used ≡ drop used out
lent_all out used = take_all (length out - used) (drop used out) (omega (arith, length-drop used out))

back_over :
    (out : List ℕ) (used : ℕ) (s part : List ℕ) → used + length s ≤ length out → part ≡ over (drop used out) 0 s
    → back out used part ≡ over out used s
back_over out used s part fits e =
    let rest = drop used out in
    let none : drop (length out - used) rest ≡ [] = drop_of_length-le rest {i = length out - used} (omega (arith, length-drop used out)) in
    (λ i. take used out ++ (e i ++ none i)) ∙ ap (λ (l : List ℕ). take used out ++ l) (append-nil (over rest 0 s)) ∙ over_part out used s fits

-- What the run from a place answers and makes of the part lent to it.
pub record Advanced (tape out : List ℕ) (at used : ℕ) (part : List ℕ) (next : Next) : Type 0 where
  pub answer : next ≡ next_of (run_into (length out - used) tape at)
  pub buffer : part ≡ over (drop used out) 0 (first_output (run_into (length out - used) tape at))

pub advanced :
    (tape out : List ℕ) (at used : ℕ) (part : List ℕ) {result next : Next} → result ≡ next
    → result ≡ next_of (run_into (length (lent out used)) tape at)
    → part ≡ over (lent out used) 0 (first_output (run_into (length (lent out used)) tape at)) → Advanced tape out at used part next
advanced tape out at used part told answer buffer =
    let all = lent_all out used in
    let room : length (lent out used) ≡ length out - used = ap length all ∙ length-drop used out in
    record {
      answer = sym told ∙ answer ∙ ap (λ (k : ℕ). next_of (run_into k tape at)) room;
      buffer = buffer ∙ (λ i. over (all i) 0 (first_output (run_into (room i) tape at)));
    }

module _ {tape out₀ out : List ℕ} {at used digests : ℕ} (d : Done tape out₀ out at used digests) {part : List ℕ} where
  -- One more digest.
  module _ {width next : ℕ} (a : Advanced tape out at used part (Taken width next)) where
    first_taken : Took tape at (length out - used) width next
    first_taken = took tape at (length out - used) a.answer

    last : List Entry
    last = first_taken.entry ∷ []

    bytes : length (output last) ≡ digest_bytes width
    unfolding last output
    bytes =
        let e = first_taken.entry in
        ap length (append-nil (digest e.width e.fed))
        ∙ length_digest e.width (rw first_taken.of first_taken.known) e.fed
        ∙ ap digest_bytes first_taken.of

    wrote : back out used part ≡ over out used (output last)
    unfolding last
    wrote =
        let first_is = ap (λ (r : Run). output (take 1 r.entries)) first_taken.same in
        back_over out used (output last) part (omega (arith, bytes, first_taken.room_left, d.room)) (a.buffer ∙ ap (over (drop used out) 0) first_is)

    pub later : (at < next) × (next ≤ length tape)
    later = (omega (arith, first_taken.from, first_taken.before), omega (arith, first_taken.below, first_taken.before))

    pub done_more : Done tape out₀ (back out used part) next (used + digest_bytes width) (digests + 1)
    unfolding last
    done_more =
        let t = first_taken in
        let all = output_append d.entries last in
        let place : used ≡ 0 + length (output d.entries) = omega (arith, d.size) in
        let fits : 0 + length (output d.entries) ≤ length out₀ = omega (arith, d.size, d.room, d.long) in
        let long : length (back out used part) ≡ length out =
        ap length wrote ∙ length_over out used (output last) (omega (arith, bytes, t.room_left, d.room)) in
        let room_after : length out - used - digest_bytes width ≡ length (back out used part) - (used + digest_bytes width) = omega arith in
        record {
          entries = d.entries ++ last;
          count = omega (arith, d.count, length-append d.entries last);
          size = omega (arith, d.size, bytes, ap length all, length-append (output d.entries) (output last));
          long = long ∙ d.long;
          room = omega (arith, t.room_left, d.room, long);
          few = omega (arith, d.few, t.from, t.before);
          inside = omega (arith, t.below, t.before);
          buffer =
              wrote
              ∙ (λ i. over (d.buffer i) (place i) (output last))
              ∙ over_over out₀ 0 (output d.entries) (output last) fits
              ∙ ap (over out₀ 0) (sym all);
          same =
              d.same
              ∙ ap (onto d.entries) t.same
              ∙ sym (onto_last d.entries t.entry (run_into (length out - used - digest_bytes width) tape next))
              ∙ ap (λ (k : ℕ). onto (d.entries ++ last) (run_into k tape next)) room_after;
        }

  -- The end: nothing more was written.
  module _ {number place : ℕ} (a : Advanced tape out at used part (Ended number place)) where
    no_more : run_into (length out - used) tape at ≡ ended number place
    no_more = ended_run (run_into (length out - used) tape at) number place a.answer

    kept : back out used part ≡ out
    unfolding output
    kept =
        let nothing = ap (λ (r : Run). output (take 1 r.entries)) no_more in
        back_over out used [] part (omega (arith, d.room)) (a.buffer ∙ ap (over (drop used out) 0) nothing) ∙ over_nil out used

    pub done_end :
        (close_of (Ended number place) digests ≡ ran_of (run_into (length out₀) tape 0))
        × (back out used part ≡ over out₀ 0 (output (run_into (length out₀) tape 0).entries))
    done_end =
        let rest : run_into (length out₀) tape 0 ≡ onto d.entries (ended number place) = d.same ∙ ap (onto d.entries) no_more in
        let all : d.entries ++ [] ≡ d.entries = append-nil d.entries in
        let count : digests ≡ length (d.entries ++ []) = d.count ∙ ap length (sym all) in (
          (λ i. record { digests = count i; refusal = number; place = place }) ∙ ap ran_of (sym rest),
          kept ∙ d.buffer ∙ ap (λ (l : List Entry). over out₀ 0 (output l)) (sym all ∙ ap (λ (r : Run). r.entries) (sym rest)),
        )
