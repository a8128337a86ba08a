-- Laws of steps, command by command.
use mathlib.Core.Bool.{Bool, true, false}
use mathlib.Core.List.{List}
use mathlib.Core.Path.{◌≡◌, refl}
use Prim.Native.Nat.{ℕ, ◌+◌, ◌≤◌, ◌<◌}
use Rattle.std.specs.Prelude.{Result, Ok, Err}
use native.Mathlib.Omega.{arith}
use lib.Dec.{lit<}
use lib.ListN.{length, drop, length-take, length-drop}
use lib.Seq.{take_all}
use Rattle.simd.specs.Basic.{is_width}
use Rattle.simd.specs.Message.{bits_of, message}
use Rattle.laws.proofs.Bits.{length_bits_of}
use Rattle.hash.specs.Open.{Opened, Fed, open_answer, feed_answer, fed_by}
use Rattle.hash.specs.declared.Hash.{Hash}
use Rattle.reader.specs.declared.Command.{Command}
use Rattle.reader.specs.declared.Command.TheVariants.{Open, Full, Part, Stop}
use Rattle.commands.specs.Effect.{closed, opened, refuses, effect, piece}
use Rattle.commands.specs.Standing.{Steps, Obeys, Opens, Takes}
use Rattle.refusals.specs.declared.Refusal.{Refusal}
use Rattle.refusals.specs.Numbers.{number_of}
use Rattle.commands.specs.declared.Step.{Step}
use Rattle.commands.proofs.Standings.{step_of, stands_fresh, open_accepted, open_refused, stands_open, feed_steps}

-- 12: a command that needs an open hash, where none is.
pub none_open :
    (tape : List ℕ) (command : Command) (hash : Hash) → hash.width ≡ 0 → effect tape closed command ≡ refuses 12
    → Obeys tape command hash (record { hash = hash; refusal = 12 })
none_open tape command hash none e closed st = rw e (refl, lit< tt)
none_open tape command hash none e (opened w m) st = absurd (stands_open st none)

-- OPEN.
pub open_busy : (width : ℕ) (hash : Hash) → (hash.width ≡ 0 → ⊥) → Opens width hash (record { hash = hash; refusal = 12 })
unfolding effect
open_busy width hash busy tape closed st = absurd (busy st)
open_busy width hash busy tape (opened w m) st = (refl, lit< tt)

open_by :
    (known : Bool) (width : ℕ) → is_width width ≡ known
    → (tape : List ℕ) → Steps (effect tape closed (Open width)) (record { hash = (open_answer width).hash; refusal = (open_answer width).refusal })
unfolding effect
open_by true width e tape = rw e (open_accepted width e, stands_fresh width e)
open_by false width e tape = rw e (open_refused width e, lit< tt)

pub open_new :
    (width : ℕ) (hash : Hash) (a : Opened) → hash.width ≡ 0 → a ≡ open_answer width
    → Opens width hash (record { hash = a.hash; refusal = a.refusal })
open_new width hash a none e tape closed st = rw e (open_by (is_width width) width refl tape)
open_new width hash a none e tape (opened w m) st = absurd (stands_open st none)

message_full : (piece : List ℕ) → length piece ≡ 32 → message piece 256 ≡ bits_of piece
unfolding message
message_full piece size = take_all 256 (bits_of piece) (omega (arith, length_bits_of piece))

-- The step that a feed makes.
pub fed_step : (hash : Hash) (answer : Result ℕ Refusal) → ◌≡◌ {A = Step} (step_of (fed_by hash answer)) (record { hash = hash; refusal = number_of answer })
fed_step hash (Ok n) = refl
fed_step hash (Err r) = refl

-- FULL and PART of an open hash.
module _ (tape : List ℕ) (p : ℕ) (hash : Hash) (some : hash.width ≡ 0 → ⊥) where
  piece_size : p + 32 ≤ length tape → length (piece tape p) ≡ 32
  piece_size inside = omega (arith, length-take 32 (drop p tape), length-drop p tape)

  pub full_fed : (a : Fed) → p + 32 ≤ length tape → a ≡ feed_answer hash (piece tape p) 256 → Obeys tape (Full p) hash (step_of a)
  unfolding effect
  full_fed a inside e closed st = absurd (some st)
  full_fed a inside e (opened w m) st =
      let size = piece_size inside in
      let step = feed_steps st (piece tape p) 256 (omega arith) a e in
      rw (message_full (piece tape p) size) at step

  pub part_fed :
      (n : ℕ) (a : Fed) → p + 32 ≤ length tape → n < 256 → a ≡ feed_answer hash (piece tape p) n
      → Obeys tape (Part n p) hash (step_of a)
  unfolding effect
  part_fed n a inside small e closed st = absurd (some st)
  part_fed n a inside small e (opened w m) st = feed_steps st (piece tape p) n (omega (arith, piece_size inside)) a e

-- TAKE of an open hash, and STOP.
pub take_open : (hash : Hash) → (hash.width ≡ 0 → ⊥) → Takes hash (record { hash = hash; refusal = 0 })
unfolding effect
take_open hash some tape closed st = absurd (some st)
take_open hash some tape (opened w m) st = refl

pub stop_open : (tape : List ℕ) (hash : Hash) → Obeys tape Stop hash (record { hash = hash; refusal = 0 })
unfolding effect
stop_open tape hash closed st = refl
stop_open tape hash (opened w m) st = refl
