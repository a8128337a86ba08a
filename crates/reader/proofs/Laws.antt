-- Laws of `read_at`.
use Rattle.std.proofs.lemmas.Bool.Decides.{nat_tests}
use Rattle.std.proofs.lemmas.List.{get_or-drop, take_all, length-drop}
use mathlib.Core.Bool.{Bool, true, false, cond}
use mathlib.Core.List.{List}
use mathlib.Core.Path.{◌≡◌, refl, sym, ap, ◌∙◌, subst}
use Prim.Native.Nat.{ℕ, ◌+◌, ◌*◌, ◌≤◌, ◌<◌}
use native.Mathlib.Omega.{arith}
use borrow.Author.Tests.{le-leb, leb-true}
use lib.Dec.{leb, eqb}
use lib.ListN.{length, get_or}
use Rattle.reader.specs.declared.Command.{Command}
use Rattle.reader.specs.declared.Command.TheVariants.{Open, Full, Part, Take, Stop}
use Rattle.reader.specs.declared.Reading.{Reading}
use Rattle.reader.specs.declared.Reading.TheVariants.{Found, Refused}
use Rattle.reader.specs.Reading.{whole, read_at, Inside}

-- The bytes of a command.
abbrev pub size_of : Command → ℕ
size_of (Open width) = 3
size_of (Full place) = 33
size_of (Part count place) = 34
size_of Take = 1
size_of Stop = 1

sized : (command : Command) → 0 < size_of command
sized (Open width) = omega arith
sized (Full place) = omega arith
sized (Part count place) = omega arith
sized Take = omega arith
sized Stop = omega arith

-- What the code reads of the bytes from a place on, and the tests that `read_at` makes of them.
pub ruleset places = (nat_tests, get_or-drop, take_all, length-drop)

module _ (tape : List ℕ) (at : ℕ) where
  -- No byte is left.
  pub read_none : length tape ≤ at → read_at tape at ≡ Refused 11 (length tape)
  unfolding read_at
  read_none none = simp (le-leb (length tape) at none)

  -- A command found lies within the tape, with its 32 bytes, and the next place is after its own bytes.
  Within : Reading → Type 0
  Within reading =
      (command : Command) (next : ℕ) → reading ≡ Found command next
      → (next ≡ at + size_of command) × (next ≤ length tape) × Inside tape command

  refused_within : (number place : ℕ) → Within (Refused number place)
  unfolding Within
  refused_within number place command next e =
      cc

  cond_within : (b : Bool) (x y : Reading) → Within x → Within y → Within (cond b x y)
  cond_within true x y p q = p
  cond_within false x y p q = q

  whole_by :
      (b : Bool) (found : Command) → leb (at + size_of found) (length tape) ≡ b → (at + size_of found ≤ length tape → Inside tape found)
      → Within (cond b (Found found (at + size_of found)) (Refused 11 at))
  unfolding Within
  whole_by true found t inside command next e =
      let fits : at + size_of found ≤ length tape = leb-true _ _ t in
      let same : at + size_of found ≡ next = cc in
      let this : found ≡ command = cc in
      (sym same ∙ ap (λ (c : Command). at + size_of c) this, omega arith, subst (Inside tape) this (inside fits))
  whole_by false found t inside command next e = refused_within 11 at command next e

  whole_within : (found : Command) → (at + size_of found ≤ length tape → Inside tape found) → Within (whole tape at (size_of found) found)
  whole_within found inside = whole_by (leb (at + size_of found) (length tape)) found refl inside

  read_within : Within (read_at tape at)
  unfolding read_at
  read_within =
      let byte = get_or tape at 0 in
      cond_within (leb (length tape) at) _ _ (refused_within _ _)
      (cond_within (eqb byte 1) _ _ (whole_within (Open (get_or tape (at + 1) 0 + 256 * get_or tape (at + 2) 0)) (λ _. tt))
      (cond_within (eqb byte 2) _ _ (whole_within (Full (at + 1)) (λ fits. omega arith))
      (cond_within (eqb byte 3) _ _ (whole_within (Part (get_or tape (at + 1) 0) (at + 2)) (λ fits. omega arith))
      (cond_within (eqb byte 4) _ _ (whole_within Take (λ _. tt))
      (cond_within (eqb byte 5) _ _ (whole_within Stop (λ _. tt)) (refused_within _ _))))))

  module _ (command : Command) (next : ℕ) (found : read_at tape at ≡ Found command next) where
    pub read_size : next ≡ at + size_of command
    unfolding Within
    read_size = (read_within command next found).0

    pub read_next : (at < next) × (next ≤ length tape)
    unfolding Within
    read_next = (omega (arith, read_size, sized command), (read_within command next found).1)

    pub read_inside : Inside tape command
    unfolding Within
    read_inside = (read_within command next found).2
