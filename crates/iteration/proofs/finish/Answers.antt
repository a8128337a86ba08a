-- The bytes of the length block are compressed as the last block.
use Rattle.std.proofs.Common.{refl}
use Rattle.iteration.proofs.BlockLaws.{end_block, compressed_length}
use Rattle.iteration.proofs.finish.Goals as goal

pub returns : goal.returns
returns g c =
    let f = g.F.Rows.family in
    compressed_length f _ _ (end_block f g.row.W g.met.F.Family.has_words _ _ refl c.length_block.ensures) c.compress.ensures
