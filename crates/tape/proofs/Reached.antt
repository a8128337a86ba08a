-- The run as far as it has come.
use mathlib.Core.Bool.{Bool, true, false, cond}
use mathlib.Core.List.{List, [], ◌∷◌, append-nil}
use mathlib.Core.Logic.{⊎_elim}
use mathlib.Core.Path.{◌≡◌, refl, sym, ap, subst, ◌∙◌}
use Prim.Native.Nat.{ℕ, ◌+◌}
use native.Mathlib.Omega.{arith}
use native.Mathlib.Decide.{dec_le}
use borrow.Author.Tests.{le-leb, lt-leb, eqb-false}
use types.Run.{OneOf}
use denote.Enum.Declared.{tag_of}
use lib.Dec.{leb}
use lib.ListN.{length}
use Rattle.simd.specs.Basic.{is_width, digest_bytes}
use Rattle.simd.specs.Message.{bits_of, message}
use Rattle.simd.specs.Hash.{digest}
use Rattle.hash.specs.Open.{limit}
use Rattle.hash.specs.declared.Hash.{Hash}
use Rattle.text.specs.Text.{over}
use Rattle.text.proofs.Over.{over_nil}
use Rattle.reader.specs.declared.Command.{Command}
use Rattle.reader.specs.declared.Command.TheVariants.{Open, Full, Part, Take, Stop}
use Rattle.reader.specs.declared.Reading.TheVariants.{Found, Refused}
use Rattle.reader.specs.contracts.Command.{the_type}
use Rattle.reader.specs.Reading.{read_at}
use Rattle.commands.specs.Effect.{Hashing, closed, opened, Effect, goes, takes, stops, refuses, effect, feeding, piece}
use Rattle.commands.specs.Standing.{StandsFor, Steps, Obeys}
use Rattle.commands.specs.declared.Step.{Step}
use Rattle.tape.specs.Run.{Entry, Run, ended, first, follow, after, run_from, fit, within, output, next_of, first_output}
use Rattle.tape.specs.Standing.{Finished, Finishes}
use Rattle.tape.specs.declared.Next.{Next}
use Rattle.tape.specs.declared.Next.TheVariants.{Ended}
use Rattle.tape.proofs.Runs.{run_step}

-- The tape goes on, unless the command is refused, where it is OPEN, FULL or PART: those are the variants 0, 1 and 2.
abbrev Moves : Effect → Type 0
Moves (goes h) = Unit {0}
Moves (takes w m) = ⊥
Moves stops = ⊥
Moves (refuses n) = Unit {0}

moves_cond : (b : Bool) (x y : Effect) → Moves x → Moves y → Moves (cond b x y)
moves_cond true x y p q = p
moves_cond false x y p q = q

moves_feeding : (w : ℕ) (m n : List ℕ) → Moves (feeding w m n)
unfolding feeding
moves_feeding w m n = moves_cond (leb (length m + length n) limit) _ _ tt tt

-- A tag of none of the three.
other : (n : ℕ) → (n ≡ 0 → ⊥) → (n ≡ 1 → ⊥) → (n ≡ 2 → ⊥) → OneOf (0 ∷ 1 ∷ 2 ∷ []) n → ⊥
other n a b c = ⊎_elim a (⊎_elim b c)

moves :
    (tape : List ℕ) (h : Hashing) (command : Command) → OneOf (0 ∷ 1 ∷ 2 ∷ []) (tag_of the_type command)
    → Moves (effect tape h command)
unfolding effect
moves tape closed (Open w) k = moves_cond (is_width w) _ _ tt tt
moves tape (opened v m) (Open w) k = tt
moves tape closed (Full p) k = tt
moves tape (opened w m) (Full p) k = moves_feeding w m (bits_of (piece tape p))
moves tape closed (Part n p) k = tt
moves tape (opened w m) (Part n p) k =
    moves_feeding w m (message (piece tape p) n)
moves tape h Take k = absurd (other 3 (eqb-false 3 0 refl) (eqb-false 3 1 refl) (eqb-false 3 2 refl) k)
moves tape h Stop k = absurd (other 4 (eqb-false 4 0 refl) (eqb-false 4 1 refl) (eqb-false 4 2 refl) k)

record Goes (e : Effect) (hash : Hash) : Type 0 where
  hashing : Hashing
  on : e ≡ goes hashing
  stands : StandsFor hashing hash

goes_by : (e : Effect) (step : Step) → Moves e → Steps e step → step.refusal ≡ 0 → Goes e step.hash
goes_by (goes h) step m s none = record { hashing = h; on = refl; stands = s.1 }
goes_by (takes w f) step m s none = absurd m
goes_by stops step m s none = absurd m
goes_by (refuses n) step m s none = absurd (omega (arith, s.0, s.1))

-- Nothing was taken between two places, and at the second the hash stands for what is open.
pub record Reached (tape : List ℕ) (from at : ℕ) (hash : Hash) : Type 0 where
  pub hashing : Hashing
  pub stands : StandsFor hashing hash
  pub same : run_from tape from closed ≡ run_from tape at hashing

pub reached_none : (tape : List ℕ) (from : ℕ) (hash : Hash) → hash.width ≡ 0 → Reached tape from from hash
reached_none tape from hash none = record { hashing = closed; stands = none; same = refl }

-- An answer and a buffer are those of a run.
pub record Answers (run : Run) (out exit : List ℕ) (next : Next) : Type 0 where
  pub answer : next ≡ next_of (within (length out) run)
  pub buffer : exit ≡ over out 0 (first_output (within (length out) run))

answers_ended : (number place : ℕ) (out : List ℕ) → Answers (ended number place) out out (Ended number place)
unfolding within fit output
answers_ended number place out = record { answer = refl; buffer = sym (over_nil out 0) }

answers_taken :
    (e : Entry) (rest : Run) (out exit : List ℕ) (next : Next) → Finished e.width e.fed e.place out exit next
    → Answers (first e rest) out exit next
unfolding within fit output
answers_taken e rest out exit next f =
    elim (dec_le (digest_bytes e.width) (length out)) [
      | yes room ↦
          let t = le-leb (digest_bytes e.width) (length out) room in
          record {
            answer = f.answer ∙ rw t;
            buffer = f.buffer ∙ rw t (ap (over out 0) (sym (append-nil (digest e.width e.fed))));
          }
      | no short ↦
          let t = lt-leb (digest_bytes e.width) (length out) (omega arith) in
          record { answer = f.answer ∙ rw t; buffer = f.buffer ∙ rw t (sym (over_nil out 0)) }
    ]

-- The reader refuses.
pub answers_refused :
    {tape : List ℕ} {from at : ℕ} {hash : Hash} → Reached tape from at hash
    → (number place : ℕ) (out : List ℕ) → read_at tape at ≡ Refused number place
    → Answers (run_from tape from closed) out out (Ended number place)
answers_refused {tape} {from} {at} r number place out e =
    rw (r.same, run_step tape at r.hashing, e) (answers_ended number place out)

-- A command was found and obeyed.
pub record Obeyed (tape : List ℕ) (from at : ℕ) (hash : Hash) (command : Command) (next : ℕ) (step : Step) : Type 0 where
  pub reached : Reached tape from at hash
  pub found : read_at tape at ≡ Found command next
  pub obeys : Obeys tape command hash step

module _ {tape : List ℕ} {from at : ℕ} {hash : Hash} {command : Command} {next : ℕ} {step : Step} (o : Obeyed tape from at hash command next step) where
  abbrev hashing : Hashing
  hashing = o.reached.hashing

  run_by : run_from tape from closed ≡ follow (run_from tape) at next (effect tape hashing command)
  run_by = o.reached.same ∙ run_step tape at hashing ∙ ap (after (run_from tape) tape at hashing) o.found

  run_as : {kind : Command} → command ≡ kind → run_from tape from closed ≡ follow (run_from tape) at next (effect tape hashing kind)
  run_as e = run_by ∙ ap (λ (k : Command). follow (run_from tape) at next (effect tape hashing k)) e

  steps : Steps (effect tape hashing command) step
  steps = o.obeys hashing o.reached.stands

  -- The command is refused.
  refused_by :
      (e : Effect) → effect tape hashing command ≡ e → Steps e step → (step.refusal ≡ 0 → ⊥)
      → effect tape hashing command ≡ refuses step.refusal
  refused_by (goes h) q s some = absurd (some s.0)
  refused_by (takes w m) q s some = absurd (some s)
  refused_by stops q s some = absurd (some s)
  refused_by (refuses n) q s some = q ∙ ap refuses (sym s.0)

  pub answers_step : (step.refusal ≡ 0 → ⊥) → (out : List ℕ) → Answers (run_from tape from closed) out out (Ended step.refusal at)
  answers_step some out =
      rw (run_by, refused_by (effect tape hashing command) refl steps some) (answers_ended step.refusal at out)

  -- A digest is taken.
  taken_by :
      (h : Hashing) → StandsFor h hash → Steps (effect tape h Take) step → step.refusal ≡ 0
      → (out exit : List ℕ) (answer : Next) → Finishes hash at out exit answer
      → Answers (follow (run_from tape) at next (effect tape h Take)) out exit answer
  unfolding effect
  taken_by closed st s none out exit answer f =
      let no : ◌≡◌ {A = ℕ} 0 12 = sym none ∙ s.0 in
      absurd (omega arith)
  taken_by (opened w m) st s none out exit answer f =
      answers_taken (record { width = w; fed = m; place = at }) (run_from tape next closed) out exit answer (f w m st)

  pub answers_take :
      command ≡ Take → step.refusal ≡ 0 → (out exit : List ℕ) (answer : Next) → Finishes hash at out exit answer
      → Answers (run_from tape from closed) out exit answer
  answers_take kind none out exit answer f =
      let here = subst (λ (k : Command). Steps (effect tape hashing k) step) kind steps in
      rw (run_as kind) (taken_by hashing o.reached.stands here none out exit answer f)

  -- The tape stops.
  stopped_by : (h : Hashing) → effect tape h Stop ≡ stops
  unfolding effect
  stopped_by closed = refl
  stopped_by (opened w m) = refl

  pub answers_stop : command ≡ Stop → (out : List ℕ) → Answers (run_from tape from closed) out out (Ended 0 0)
  answers_stop kind out = rw (run_as kind, stopped_by hashing) (answers_ended 0 0 out)

  -- The tape goes on.
  pub reached_next : OneOf (0 ∷ 1 ∷ 2 ∷ []) (tag_of the_type command) → step.refusal ≡ 0 → Reached tape from next step.hash
  reached_next kind none =
      let g = goes_by (effect tape hashing command) step (moves tape hashing command kind) steps none in
      record { hashing = g.hashing; stands = g.stands; same = run_by ∙ ap (follow (run_from tape) at next) g.on }
