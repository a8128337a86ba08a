use Rattle.little_endian.specs.Numbers.{little_endian}
use Rattle.blocks.proofs.length_block.Goals as goal

pub returns : goal.returns
unfolding little_endian
returns c = c.write_number.ensures
