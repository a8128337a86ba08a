-- Laws of runs.
use mathlib.Core.List.{List}
use mathlib.Core.Path.{◌≡◌, refl, sym, ap}
use Prim.Native.Nat.{ℕ, zero, suc, ◌+◌, ◌≤◌, ◌<◌}
use native.Mathlib.Omega.{arith}
use lib.ListN.{length}
use Rattle.reader.specs.declared.Reading.{Reading}
use Rattle.reader.specs.declared.Reading.TheVariants.{Found, Refused}
use Rattle.reader.specs.Reading.{read_at}
use Rattle.reader.proofs.Laws.{read_none, read_next}
use Rattle.commands.specs.Effect.{Hashing, closed, Effect, goes, takes, stops, refuses, effect}
use Rattle.tape.specs.Run.{Run, first, follow, after, run_for, run_from}

-- A run goes by what follows, and only at later places of the tape.
follow_ext :
    (f g : ℕ → Hashing → Run) (at next : ℕ) (e : Effect) → ((h : Hashing) → f next h ≡ g next h)
    → follow f at next e ≡ follow g at next e
follow_ext f g at next (goes h) same = same h
follow_ext f g at next (takes w m) same = ap (first (record { width = w; fed = m; place = at })) (same closed)
follow_ext f g at next stops same = refl
follow_ext f g at next (refuses n) same = refl

after_ext :
    (f g : ℕ → Hashing → Run) (tape : List ℕ) (at : ℕ) (h : Hashing) (r : Reading) → read_at tape at ≡ r
    → ((next : ℕ) → at < next → next ≤ length tape → (h : Hashing) → f next h ≡ g next h) → after f tape at h r ≡ after g tape at h r
after_ext f g tape at h (Found command next) e same =
    let there = read_next tape at command next e in
    follow_ext f g at next (effect tape h command) (same next there.0 there.1)
after_ext f g tape at h (Refused number place) e same = refl

-- More commands than the tape has bytes left change nothing.
pub enough :
    (m n : ℕ) (tape : List ℕ) (at : ℕ) (h : Hashing) → length tape < m + at → length tape < n + at
    → run_for m tape at h ≡ run_for n tape at h
unfolding run_for
enough zero zero tape at h p q = refl
enough zero (suc n) tape at h p q = ap (after (run_for n tape) tape at h) (sym (read_none tape at (omega arith)))
enough (suc m) zero tape at h p q = ap (after (run_for m tape) tape at h) (read_none tape at (omega arith))
enough (suc m) (suc n) tape at h p q =
    after_ext (run_for m tape) (run_for n tape) tape at h (read_at tape at) refl
    (λ next there within h'. enough m n tape next h' (omega arith) (omega arith))

-- A run is what its first command makes of the run from the place after it.
pub run_step : (tape : List ℕ) (at : ℕ) (h : Hashing) → run_from tape at h ≡ after (run_from tape) tape at h (read_at tape at)
unfolding run_from run_for
run_step tape at h =
    after_ext (run_for (length tape) tape) (run_from tape) tape at h (read_at tape at) refl
    (λ next there within h'. enough (length tape) (suc (length tape)) tape next h' (omega arith) (omega arith))
