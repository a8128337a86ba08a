-- The words passed are those of the columns.
use Rattle.std.proofs.Common.{◌/◌, ◌%◌, [], get_or}
use Rattle.laws.proofs.Fill.{Filled}
use Rattle.compression.proofs.flat.Given as goal

abbrev pub invariant-loop-k : goal.invariant-loop-k
invariant-loop-k g l = Filled 0 g.row.W (λ i. get_or (get_or l.s (i / g.row.R) []) (i % g.row.R) 0) l.k l.words
