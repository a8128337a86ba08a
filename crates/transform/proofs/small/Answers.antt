-- Each call leads from one level to the next, within its bound. The last level is the transform.
use mathlib.Core.Path.{refl}
use native.Mathlib.Omega.{arith}
use Rattle.simd.specs.Basic.{small}
use Rattle.laws.proofs.Field.{power_139}
use Rattle.radix_8.specs.Pass.{held}
use Rattle.radix_8.proofs.Ends.{ends_small}
use Rattle.transform.proofs.Whole.{bounds_8, bounds_16, bounds_32, bounds_64, rows_level, level_128, transformed}
use Rattle.transform.proofs.small.Goals as goal

pub begin-requires : goal.begin-requires
begin-requires c =
    record { block_len = (c.requires.block_len.0, omega arith, refl); by_index = (λ q h. ends_small 16 _ q _ (c.append.ensures q h)) }

pub rows-requires-clause-roots : goal.rows-requires-clause-roots
rows-requires-clause-roots c =
    (c.requires.roots, bounds_8 c.begin.ensures.within c.shuffle.ensures c.shuffle-2.ensures c.shuffle-3.ensures)

pub rows-requires-2-clause-roots : goal.rows-requires-2-clause-roots
rows-requires-2-clause-roots c =
    (c.requires.roots, bounds_16 c.begin.ensures.within c.shuffle.ensures c.shuffle-2.ensures c.shuffle-3.ensures c.rows.ensures.spreads)

pub rows-requires-3-clause-roots : goal.rows-requires-3-clause-roots
rows-requires-3-clause-roots c =
    (c.requires.roots, bounds_32 c.begin.ensures.within c.shuffle.ensures c.shuffle-2.ensures c.shuffle-3.ensures c.rows.ensures.spreads c.rows-2.ensures.spreads)

pub rows-requires-4-clause-roots : goal.rows-requires-4-clause-roots
rows-requires-4-clause-roots c =
    (c.requires.roots, bounds_64 c.begin.ensures.within c.shuffle.ensures c.shuffle-2.ensures c.shuffle-3.ensures c.rows.ensures.spreads c.rows-2.ensures.spreads c.rows-3.ensures.spreads)

pub returns : goal.returns
returns c =
    let b = c.args.block.now in
    let ends = c.append.new.ends in
    let eight = rows_level 16 64 refl c.shuffle.ensures c.shuffle-2.ensures c.shuffle-3.ensures (held 16 b ends) 32
    c.begin.ensures.level in
    let most = level_128 (held 16 b ends) 1 eight c.rows.ensures.leads c.rows-2.ensures.leads c.rows-3.ensures.leads c.rows-4.ensures.leads in
    transformed small c.args.last b ends 2 16 64 128 (refl, c.requires.block_len.0, refl, refl) (refl, omega arith) power_139 c.append.ensures most
    (omega (arith, c.finish.auto.out, c.requires.block_len.1)) c.finish.ensures
