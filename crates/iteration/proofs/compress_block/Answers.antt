-- A block that has all of its bytes is compressed where it lies.
use Rattle.iteration.proofs.BlockLaws.{block_whole, compressed_block, bytes_are}
use Rattle.iteration.proofs.compress_block.Goals as goal

pub returns : goal.returns
returns g c =
    let f = g.F.Rows.family in
    let read = rw (bytes_are f g.row.W g.met.F.Family.has_words) at c.part.ensures.0 in
    compressed_block f _ _ _ (block_whole f _ _ (λ j. (c.type_inv.bytes j).fits) c.requires.0 read) c.compress.ensures
