-- Each turn places the eight values of one place more.
use mathlib.Core.Path.{◌≡◌}
use Prim.Native.Nat.{ℕ, ◌*◌, ◌<◌}
use lib.ListN.{length}
use Rattle.radix_8.specs.Pass.{Placed}
use Rattle.radix_8.proofs.begin.Given as goal

abbrev pub invariant-loop-q : goal.invariant-loop-q
invariant-loop-q l = (length l.y ≡ 8 * l.m) × ((p : ℕ) → p < l.q → Placed l.m l.block l.ends l.y p)
