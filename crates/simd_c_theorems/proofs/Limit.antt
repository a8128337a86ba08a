-- The limit is the greatest count that a call for C can be given: a message at hand whole never goes above it.
use mathlib.Core.List.{List}
use mathlib.Core.Path.{◌≡◌}
use Prim.Native.Nat.{ℕ, ◌+◌, ◌*◌, ◌^◌, ◌<◌}
use native.Mathlib.Omega.{arith}
use borrow.Author.Tests.{le-leb}
use lib.Dec.{leb}
use lib.ListN.{length}
use Rattle.hash.specs.Open.{limit, piece_refusal}
use Rattle.hash.proofs.Ignored.{neither}

pub whole_not_4 : (message : List ℕ) (count : ℕ) → count < 2 ^ 64 → piece_refusal 0 message count ≡ 4 → ⊥
unfolding piece_refusal
whole_not_4 message count fits =
    rw (le-leb (0 + count) limit (omega arith))
    (neither (leb count (8 * length message)) (λ (e : 0 ≡ 4). omega arith) (λ (e : 2 ≡ 4). omega arith))
