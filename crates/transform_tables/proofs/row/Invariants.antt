-- Each turn stores one power and its product, at places of their own.
use mathlib.Core.Path.{◌≡◌}
use Prim.Native.Nat.{◌+◌, ◌*◌}
use Rattle.simd.specs.Expansion.{power}
use Rattle.laws.proofs.Stores.{Stored}
use Rattle.transform_tables.proofs.row.Given as goal

abbrev pub invariant-loop-k : goal.invariant-loop-k
invariant-loop-k l =
    Stored (λ k a b. (a ≡ power 41 (l.first + l.step * k)) × (b ≡ 255 * power 41 (l.first + l.step * k))) (λ k. l.at + k) (λ k. 256 + l.at + k) l.initial.t l.t l.k
