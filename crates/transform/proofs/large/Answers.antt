-- Each call leads from one level to the next, within its bound. The last level is the transform.
use mathlib.Core.Path.{refl, sym, ap}
use native.Mathlib.Nat.{one-mul}
use native.Mathlib.Omega.{arith}
use lib.ListN.{get_or-replicate}
use Rattle.simd.specs.Basic.{large}
use Rattle.simd.specs.Expansion.{power}
use Rattle.radix_8.specs.Pass.{held}
use Rattle.radix_8.proofs.Ends.{ends_small}
use Rattle.transform.proofs.Whole.{bounds_8, bounds_16, bounds_32, bounds_64, bounds_128, rows_level, level_128, transformed}
use Rattle.transform.proofs.large.Goals as goal

pub append-requires : goal.append-requires
append-requires c = (refl, omega arith, (λ q h. get_or-replicate 32 q 0 0 h))

pub begin-requires : goal.begin-requires
begin-requires c =
    record { block_len = (c.requires.block_len.0, omega arith, refl); by_index = (λ q h. ends_small 32 _ q _ (c.append.ensures q h)) }

pub rows-requires-clause-roots : goal.rows-requires-clause-roots
rows-requires-clause-roots c =
    (c.requires.roots, bounds_8 c.begin.ensures.within c.shuffle.ensures c.shuffle-2.ensures c.shuffle-3.ensures)

pub rows-requires-2-clause-roots : goal.rows-requires-2-clause-roots
rows-requires-2-clause-roots c =
    (c.requires.roots, bounds_16 c.begin.ensures.within c.shuffle.ensures c.shuffle-2.ensures c.shuffle-3.ensures c.rows.ensures.spreads)

pub rows-requires-3-clause-roots : goal.rows-requires-3-clause-roots
rows-requires-3-clause-roots c =
    (c.requires.roots, bounds_32 c.begin.ensures.within c.shuffle.ensures c.shuffle-2.ensures c.shuffle-3.ensures c.rows.ensures.spreads c.rows-2.ensures.spreads)

pub rows-requires-4-clause-roots : goal.rows-requires-4-clause-roots
rows-requires-4-clause-roots c =
    (c.requires.roots, bounds_64 c.begin.ensures.within c.shuffle.ensures c.shuffle-2.ensures c.shuffle-3.ensures c.rows.ensures.spreads c.rows-2.ensures.spreads c.rows-3.ensures.spreads)

pub rows-requires-5-clause-roots : goal.rows-requires-5-clause-roots
rows-requires-5-clause-roots c =
    (c.requires.roots, bounds_128 c.begin.ensures.within c.shuffle.ensures c.shuffle-2.ensures c.shuffle-3.ensures c.rows.ensures.spreads c.rows-2.ensures.spreads c.rows-3.ensures.spreads c.rows-4.ensures.spreads)

pub returns : goal.returns
returns c =
    let b = c.args.block.now in
    let ends = c.append.new.ends in
    let eight = rows_level 32 128 refl c.shuffle.ensures c.shuffle-2.ensures c.shuffle-3.ensures (held 32 b ends) 32
    c.begin.ensures.level in
    let most = level_128 (held 32 b ends) 2 eight c.rows.ensures.leads c.rows-2.ensures.leads c.rows-3.ensures.leads c.rows-4.ensures.leads in
    let all = c.rows-5.ensures.leads.next (held 32 b ends) 0 refl most in
    transformed large c.args.last b ends 1 32 128 256 (refl, c.requires.block_len.0, refl, refl) (refl, omega arith)
    (λ k. ap (power 41) (sym (one-mul k))) c.append.ensures all
    (omega (arith, c.finish.auto.out, c.requires.block_len.1)) c.finish.ensures
