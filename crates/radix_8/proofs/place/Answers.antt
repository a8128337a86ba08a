-- The bytes and the last eighth are small enough for the two functions of four values, and the values go to places of their own.
use Rattle.radix_8.proofs.Eight.{placed, before_kept}
use Rattle.radix_8.proofs.place.Goals as goal

pub returns : goal.returns
returns c =
    let a = c.args in
    let inside = c.requires.q_lt_m.0 in
    let evens = rw (c.from-a.ensures, c.from-b.ensures, c.from-c.ensures, c.from-d.ensures) at c.even_values.ensures in
    let odds = rw (c.from-a.ensures, c.from-b.ensures, c.from-c.ensures, c.from-d.ensures) at c.odd_values.ensures in
    let blocks = c.requires.block_len in record {
      placed = placed a.m a.block.now a.ends.now (blocks.0, blocks.1) a.q inside evens c.spread.ensures odds c.spread-2.ensures;
      by_index = before_kept a.m a.block.now a.ends.now (blocks.0, blocks.1) a.q inside evens c.spread.ensures odds c.spread-2.ensures;
    }
