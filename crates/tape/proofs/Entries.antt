-- Laws of the TAKEs of a run: the first, and the run after it.
use mathlib.Core.Bool.{Bool, true, false, cond}
use mathlib.Core.List.{List}
use mathlib.Core.Path.{◌≡◌, refl, ap, ◌∙◌}
use Prim.Native.Nat.{ℕ, zero, suc, ◌+◌, ◌≤◌, ◌<◌}
use native.Mathlib.Omega.{arith}
use lib.Dec.{leb}
use lib.ListN.{length}
use Rattle.simd.specs.Basic.{is_width}
use Rattle.simd.specs.Message.{bits_of, message}
use Rattle.hash.specs.Open.{limit}
use Rattle.reader.specs.declared.Command.{Command}
use Rattle.reader.specs.declared.Command.TheVariants.{Open, Full, Part, Take, Stop}
use Rattle.reader.specs.declared.Reading.{Reading}
use Rattle.reader.specs.declared.Reading.TheVariants.{Found, Refused}
use Rattle.reader.specs.Reading.{read_at}
use Rattle.reader.proofs.Laws.{size_of, read_next, read_size}
use Rattle.commands.specs.Effect.{Hashing, closed, opened, Effect, goes, takes, stops, refuses, effect, feeding, piece}
use Rattle.tape.specs.Run.{Entry, Run, ended, first, follow, after, run_for, run_from}
use Rattle.tape.proofs.Runs.{enough}

-- An open hash has one of the four widths.
abbrev Known : Hashing → Type 0
Known closed = Unit {0}
Known (opened w m) = is_width w ≡ true

abbrev Good : Effect → Type 0
Good (goes h) = Known h
Good (takes w m) = is_width w ≡ true
Good stops = Unit {0}
Good (refuses n) = Unit {0}

good_cond : (b : Bool) (x y : Effect) → (b ≡ true → Good x) → Good y → Good (cond b x y)
good_cond true x y p q = p refl
good_cond false x y p q = q

good_feeding : (w : ℕ) (m n : List ℕ) → is_width w ≡ true → Good (feeding w m n)
unfolding feeding
good_feeding w m n known = good_cond (leb (length m + length n) limit) _ _ (λ _. known) tt

good : (tape : List ℕ) (h : Hashing) (command : Command) → Known h → Good (effect tape h command)
unfolding effect
good tape closed (Open w) known = good_cond (is_width w) _ _ (λ e. e) tt
good tape closed (Full p) known = tt
good tape closed (Part n p) known = tt
good tape closed Take known = tt
good tape closed Stop known = tt
good tape (opened v m) (Open w) known = tt
good tape (opened w m) (Full p) known = good_feeding w m (bits_of (piece tape p)) known
good tape (opened w m) (Part n p) known =
    good_feeding w m (message (piece tape p) n) known
good tape (opened w m) Take known = known
good tape (opened w m) Stop known = tt

-- Only TAKE takes.
abbrev Single : Command → Effect → Type 0
Single command (goes h) = Unit {0}
Single command (takes w m) = command ≡ Take
Single command stops = Unit {0}
Single command (refuses n) = Unit {0}

single_cond : (command : Command) (b : Bool) (x y : Effect) → Single command x → Single command y → Single command (cond b x y)
single_cond command true x y p q = p
single_cond command false x y p q = q

single_feeding : (command : Command) (w : ℕ) (m n : List ℕ) → Single command (feeding w m n)
unfolding feeding
single_feeding command w m n = single_cond command (leb (length m + length n) limit) _ _ tt tt

single : (tape : List ℕ) (h : Hashing) (command : Command) → Single command (effect tape h command)
unfolding effect
single tape closed (Open w) = single_cond (Open w) (is_width w) _ _ tt tt
single tape closed (Full p) = tt
single tape closed (Part n p) = tt
single tape closed Take = tt
single tape closed Stop = tt
single tape (opened v m) (Open w) = tt
single tape (opened w m) (Full p) = single_feeding (Full p) w m (bits_of (piece tape p))
single tape (opened w m) (Part n p) =
    single_feeding (Part n p) w m (message (piece tape p) n)
single tape (opened w m) Take = refl
single tape (opened w m) Stop = tt

-- A run takes nothing, or its first TAKE comes at a later place, and then the run from the place after it.
pub data First (tape : List ℕ) (at : ℕ) (run : Run) : Type 0 where
  none : (number place : ℕ) → run ≡ ended number place → First tape at run
  some :
      (e : Entry) → is_width e.width ≡ true → at ≤ e.place → e.place < length tape
      → run ≡ first e (run_from tape (e.place + 1) closed) → First tape at run

later : (tape : List ℕ) (at next : ℕ) (run : Run) → at ≤ next → First tape next run → First tape at run
later tape at next run le (none number place e) = none number place e
later tape at next run le (some e known from below same) = some e known (omega arith) below same

first_follow :
    (n : ℕ) (tape : List ℕ) (at next : ℕ) (command : Command) → read_at tape at ≡ Found command next → length tape < suc n + at
    → ((h : Hashing) → Known h → First tape next (run_for n tape next h))
    → (e : Effect) → Good e → Single command e → First tape at (follow (run_for n tape) at next e)
unfolding run_from
first_follow n tape at next command found left rest (goes h) known single =
    later tape at next _ (omega (arith, (read_next tape at command next found).0)) (rest h known)
first_follow n tape at next command found left rest (takes w m) known single =
    let there = read_next tape at command next found in
    let size = read_size tape at command next found ∙ ap (λ (c : Command). at + size_of c) single in
    let entry : Entry = record { width = w; fed = m; place = at } in
    some entry known (omega arith) (omega (arith, there.0, there.1))
    (ap (first entry)
    (enough n (suc (length tape)) tape next closed (omega (arith, there.0)) (omega (arith, there.0))
    ∙ ap (λ (k : ℕ). run_for (suc (length tape)) tape k closed) size))
first_follow n tape at next command found left rest stops known single = none 0 0 refl
first_follow n tape at next command found left rest (refuses k) known single = none k at refl

first_after :
    (n : ℕ) (tape : List ℕ) (at : ℕ) (h : Hashing) → Known h → length tape < suc n + at
    → ((next : ℕ) → at < next → (h : Hashing) → Known h → First tape next (run_for n tape next h))
    → (r : Reading) → read_at tape at ≡ r → First tape at (after (run_for n tape) tape at h r)
first_after n tape at h known left rest (Refused number place) e = none number place refl
first_after n tape at h known left rest (Found command next) e =
    first_follow n tape at next command e left (rest next (read_next tape at command next e).0)
    (effect tape h command) (good tape h command known) (single tape h command)

first_for : (n : ℕ) (tape : List ℕ) (at : ℕ) (h : Hashing) → Known h → length tape < n + at → First tape at (run_for n tape at h)
unfolding run_for
first_for zero tape at h known left = none 11 (length tape) refl
first_for (suc n) tape at h known left =
    first_after n tape at h known left (λ next there h' known'. first_for n tape next h' known' (omega arith)) (read_at tape at) refl

pub run_first : (tape : List ℕ) (at : ℕ) → First tape at (run_from tape at closed)
unfolding run_from
run_first tape at = first_for (suc (length tape)) tape at closed tt (omega arith)
