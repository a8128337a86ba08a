-- The words passed are those of the old state xor those of the block.
use Rattle.std.proofs.Common.{get_or, bit_xor}
use Rattle.simd.specs.Basic.{word_at}
use Rattle.laws.proofs.Fill.{Filled}
use Rattle.compression.proofs.mixed.Given as goal

abbrev pub invariant-loop-i : goal.invariant-loop-i
invariant-loop-i g l = Filled 0 g.row.W (λ k. bit_xor (get_or l.old k 0) (word_at l.block k)) l.i l.words
