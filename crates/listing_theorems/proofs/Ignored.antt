-- A tape's digests depend on its bits alone: what stands past the count of a PART is ignored, in all of its 32 bytes, and 3 is refused nowhere.
use mathlib.Core.Bool.{Bool, true, false, cond}
use mathlib.Core.List.{List, [], ◌∷◌}
use mathlib.Core.Path.{◌≡◌, refl, ap, ◌∙◌}
use Prim.Native.Nat.{ℕ, zero, suc, ◌+◌, ◌-◌}
use native.Mathlib.Omega.{arith}
use lib.Dec.{leb, eqb}
use lib.ListN.{length, get_or}
use Rattle.simd.specs.Basic.{is_width, digest_bytes}
use Rattle.simd.specs.Message.{bits_of, message}
use Rattle.hash.specs.Open.{limit}
use Rattle.reader.specs.declared.Command.{Command}
use Rattle.reader.specs.declared.Command.TheVariants.{Open, Full, Part, Take, Stop}
use Rattle.reader.specs.declared.Reading.{Reading}
use Rattle.reader.specs.declared.Reading.TheVariants.{Found, Refused}
use Rattle.reader.specs.Reading.{read_at}
use Rattle.commands.specs.Effect.{Hashing, closed, opened, Effect, goes, takes, stops, refuses, piece, feeding, effect}
use Rattle.tape.specs.Run.{Entry, Run, ended, follow, after, run_for, run_from, fit, within, run_into}
use Rattle.listing.specs.Listing.{lines, listing}

-- Two tapes of one length are alike where the same commands stand in both, as far as they are read, and each feeds the same bits: so much of a
-- FULL or a PART as counts. `on` says it of the commands behind.
abbrev pub AlikeBy : List ℕ → List ℕ → Type 0 → Command → Type 0
AlikeBy t u on (Open width) = on
AlikeBy t u on (Full place) = (piece t place ≡ piece u place) × on
AlikeBy t u on (Part count place) = (message (piece t place) count ≡ message (piece u place) count) × on
AlikeBy t u on Take = on
AlikeBy t u on Stop = Unit {0}

abbrev pub AlikeAfter : (ℕ → Type 0) → List ℕ → List ℕ → Reading → Type 0
AlikeAfter on t u (Found command next) = AlikeBy t u (on next) command
AlikeAfter on t u (Refused number place) = Unit {0}

abbrev pub AlikeFor : ℕ → List ℕ → List ℕ → ℕ → Type 0
AlikeFor zero t u at = Unit {0}
AlikeFor (suc most) t u at = (read_at t at ≡ read_at u at) × AlikeAfter (AlikeFor most t u) t u (read_at t at)

pub record Alike (t u : List ℕ) (at : ℕ) : Type 0 where
  pub size : length t ≡ length u
  pub commands : AlikeFor (suc (length t)) t u at

module _ (t u : List ℕ) (on : Type 0) where
  same_effect : (command : Command) → AlikeBy t u on command → (h : Hashing) → effect t h command ≡ effect u h command
  unfolding effect
  same_effect (Open w) alike closed = refl
  same_effect (Full p) alike closed = refl
  same_effect (Part n p) alike closed = refl
  same_effect Take alike closed = refl
  same_effect Stop alike closed = refl
  same_effect (Open w) alike (opened width fed) = refl
  same_effect (Full p) alike (opened width fed) = ap (λ (l : List ℕ). feeding width fed (bits_of l)) alike.0
  same_effect (Part n p) alike (opened width fed) = ap (feeding width fed) alike.0
  same_effect Take alike (opened width fed) = refl
  same_effect Stop alike (opened width fed) = refl

-- What follows a command, where the commands behind it do the same.
same_follow : (go go' : ℕ → Hashing → Run) (at next : ℕ) → ((h : Hashing) → go next h ≡ go' next h) → (e : Effect)
    → follow go at next e ≡ follow go' at next e
same_follow go go' at next same (goes h) = same h
same_follow go go' at next same (takes width fed) =
    ap (λ (run : Run). record { entries = record { width = width; fed = fed; place = at } ∷ run.entries; number = run.number; place = run.place })
    (same closed)
same_follow go go' at next same stops = refl
same_follow go go' at next same (refuses number) = refl

after_stop : (go go' : ℕ → Hashing → Run) (t u : List ℕ) (at next : ℕ) (h : Hashing)
    → follow go at next (effect t h Stop) ≡ follow go' at next (effect u h Stop)
unfolding effect
after_stop go go' t u at next closed = refl
after_stop go go' t u at next (opened width fed) = refl

module _ (t u : List ℕ) (on : ℕ → Type 0) (go go' : ℕ → Hashing → Run)
    (same : (next : ℕ) → on next → (h : Hashing) → go next h ≡ go' next h) (at : ℕ) (h : Hashing) where
  by_effect : (command : Command) (next : ℕ) → AlikeBy t u (on next) command → on next
      → follow go at next (effect t h command) ≡ follow go' at next (effect u h command)
  by_effect command next alike rest =
      same_follow go go' at next (same next rest) (effect t h command) ∙ ap (follow go' at next) (same_effect t u (on next) command alike h)

  same_command : (command : Command) (next : ℕ) → AlikeBy t u (on next) command
      → follow go at next (effect t h command) ≡ follow go' at next (effect u h command)
  same_command (Open w) next alike = by_effect (Open w) next alike alike
  same_command (Full p) next alike = by_effect (Full p) next alike alike.1
  same_command (Part n p) next alike = by_effect (Part n p) next alike alike.1
  same_command Take next alike = by_effect Take next alike alike
  same_command Stop next alike = after_stop go go' t u at next h

  same_after : (r : Reading) → AlikeAfter on t u r → after go t at h r ≡ after go' u at h r
  same_after (Found command next) alike = same_command command next alike
  same_after (Refused number place) alike = refl

same_for : (most : ℕ) (t u : List ℕ) → length t ≡ length u → (at : ℕ) → AlikeFor most t u at → (h : Hashing) → run_for most t at h ≡ run_for most u at h
unfolding run_for
same_for zero t u size at alike h = ap (ended 11) size
same_for (suc most) t u size at alike h =
    same_after t u (AlikeFor most t u) (run_for most t) (run_for most u) (same_for most t u size) at h (read_at t at) alike.1
    ∙ ap (after (run_for most u) u at h) alike.0

-- Alike tapes run alike: the same digests, the same refusal, the same listing.
pub same_run : {t u : List ℕ} {at : ℕ} → Alike t u at → (h : Hashing) → run_from t at h ≡ run_from u at h
unfolding run_from
same_run {t} {u} {at} alike h =
    same_for (suc (length t)) t u alike.size at alike.commands h ∙ ap (λ (n : ℕ). run_for (suc n) u at h) alike.size

pub same_into : (room : ℕ) {t u : List ℕ} {at : ℕ} → Alike t u at → run_into room t at ≡ run_into room u at
same_into room alike = ap (within room) (same_run alike closed)

pub same_listing : {t u : List ℕ} → Alike t u 0 → listing t ≡ listing u
unfolding listing
same_listing {t} {u} alike =
    λ i. lines 0 (cond (leb (alike.size i) 65536) (same_run alike closed i) (ended 13 65536))

-- 3 is refused nowhere.
either : {A : Type 0} (P : A → Type 0) (b : Bool) {x y : A} → P x → P y → P (cond b x y)
either P true p q = p
either P false p q = q

abbrev Spared : Effect → Type 0
Spared (goes h) = Unit {0}
Spared (takes width fed) = Unit {0}
Spared stops = Unit {0}
Spared (refuses number) = number ≡ 3 → ⊥

spared : (tape : List ℕ) (h : Hashing) (command : Command) → Spared (effect tape h command)
unfolding effect feeding
spared tape closed (Open w) = either Spared (is_width w) tt (λ e. omega arith)
spared tape closed (Full p) = λ e. omega arith
spared tape closed (Part n p) = λ e. omega arith
spared tape closed Take = λ e. omega arith
spared tape closed Stop = tt
spared tape (opened width fed) (Open w) = λ e. omega arith
spared tape (opened width fed) (Full p) = either Spared (leb (length fed + length (bits_of (piece tape p))) limit) tt (λ e. omega arith)
spared tape (opened width fed) (Part n p) = either Spared (leb (length fed + length (message (piece tape p) n)) limit) tt (λ e. omega arith)
spared tape (opened width fed) Take = tt
spared tape (opened width fed) Stop = tt

abbrev ReadSpared : Reading → Type 0
ReadSpared (Found command next) = Unit {0}
ReadSpared (Refused number place) = number ≡ 3 → ⊥

read_spared : (tape : List ℕ) (at : ℕ) → ReadSpared (read_at tape at)
unfolding read_at
read_spared tape at =
    let byte = get_or tape at 0 in
    let whole : (size : ℕ) (command : Command) → ReadSpared (cond (leb (at + size) (length tape)) (Found command (at + size)) (Refused 11 at)) =
    λ size command. either ReadSpared (leb (at + size) (length tape)) tt (λ e. omega arith) in
    either ReadSpared (leb (length tape) at) (λ e. omega arith)
    (either ReadSpared (eqb byte 1) (whole 3 _) (either ReadSpared (eqb byte 2) (whole 33 _) (either ReadSpared (eqb byte 3) (whole 34 _)
    (either ReadSpared (eqb byte 4) (whole 1 _) (either ReadSpared (eqb byte 5) (whole 1 _) (λ e. omega arith))))))

follow_spared : (go : ℕ → Hashing → Run) (at next : ℕ) → ((h : Hashing) → (go next h).number ≡ 3 → ⊥) → (e : Effect) → Spared e
    → (follow go at next e).number ≡ 3 → ⊥
follow_spared go at next rest (goes h) fine = rest h
follow_spared go at next rest (takes width fed) fine = rest closed
follow_spared go at next rest stops fine = λ e. omega arith
follow_spared go at next rest (refuses number) fine = fine

after_spared : (go : ℕ → Hashing → Run) (tape : List ℕ) (at : ℕ) (h : Hashing) → ((next : ℕ) (h : Hashing) → (go next h).number ≡ 3 → ⊥)
    → (r : Reading) → ReadSpared r → (after go tape at h r).number ≡ 3 → ⊥
after_spared go tape at h rest (Found command next) fine =
    follow_spared go at next (rest next) (effect tape h command) (spared tape h command)
after_spared go tape at h rest (Refused number place) fine = fine

for_spared : (most : ℕ) (tape : List ℕ) (at : ℕ) (h : Hashing) → (run_for most tape at h).number ≡ 3 → ⊥
unfolding run_for
for_spared zero tape at h = λ e. omega arith
for_spared (suc most) tape at h =
    after_spared (run_for most tape) tape at h (λ next h. for_spared most tape next h) (read_at tape at) (read_spared tape at)

pub run_not_3 : (tape : List ℕ) (at : ℕ) (h : Hashing) → (run_from tape at h).number ≡ 3 → ⊥
unfolding run_from
run_not_3 tape at h = for_spared (suc (length tape)) tape at h

fit_spared : (room : ℕ) (entries : List Entry) (number place : ℕ) → (number ≡ 3 → ⊥) → (fit room entries number place).number ≡ 3 → ⊥
unfolding fit
fit_spared room [] number place fine = fine
fit_spared room (e ∷ entries) number place fine =
    either (λ (run : Run). run.number ≡ 3 → ⊥) (leb (digest_bytes e.width) room)
    (fit_spared (room - digest_bytes e.width) entries number place fine) (λ e. omega arith)

pub into_not_3 : (room : ℕ) (tape : List ℕ) (at : ℕ) → (run_into room tape at).number ≡ 3 → ⊥
unfolding within
into_not_3 room tape at = fit_spared room (run_from tape at closed).entries _ (run_from tape at closed).place (run_not_3 tape at closed)
