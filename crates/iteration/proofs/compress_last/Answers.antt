-- The copy has zeros past the last bit, so that it is the message's block whatever the byte string has there.
use Rattle.std.proofs.Common.{◌*◌, replicate, refl, arith}
use Rattle.bits.specs.Zero.{all_zero}
use Rattle.iteration.proofs.BlockLaws.{last_fits, left_fits, last_block, compressed_block, zero_front}
use Rattle.iteration.proofs.compress_last.Goals as goal

pub fill_bits-requires : goal.fill_bits-requires
unfolding all_zero
fill_bits-requires g c =
    let f = g.F.Rows.family in
    let has = g.met.F.Family.has_words in
    (omega (arith, last_fits f g.row.W has c.args.count, c.requires.0), left_fits f g.row.W has _ _ refl, zero_front (4 * g.row.W) (replicate 128 0) refl)

pub returns : goal.returns
returns g c =
    let f = g.F.Rows.family in
    compressed_block f _ _ _ (last_block f g.row.W g.met.F.Family.has_words _ _ _ refl c.fill_bits.ensures) c.compress.ensures
