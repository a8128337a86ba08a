-- Turn by turn, two places take a butterfly. The factors are entries of the table of roots, and no sum passes 16 bits.
use Rattle.std.proofs.Common.{◌+◌, get_or}
use Rattle.laws.proofs.Stores.{Stored}
use Rattle.transform_stages.specs.Stage.{Butterfly}
use Rattle.transform_stages.proofs.butterflies.Given as goal

abbrev pub invariant-loop-k : goal.invariant-loop-k
invariant-loop-k l =
    Stored (λ k u v. Butterfly (get_or l.x (l.i + k) 0) (get_or l.t (l.l + l.from + k) 0) (get_or l.x (l.i + l.gap + k) 0) u v) (λ k. l.j + k) (λ k. l.j + l.l + k)
    l.initial.y l.y l.k
