-- Each call makes the entries before those of the last one. The test of a call's exponents is computed.
use Rattle.transform_tables.specs.Roots.{exponent}
use Rattle.transform_tables.proofs.Making.{fit_in, begun_none, roots_made}
use Rattle.transform_tables.proofs.fill_roots.Goals as goal

-- The place after the call of `powers`, from the places before the calls of `row`.
pub row-requires-clause-by_index : goal.row-requires-clause-by_index
unfolding exponent
row-requires-clause-by_index c = (fit_in 224 96 1 32 tt tt, begun_none c.args.t.now c.requires)

pub row-requires-2-clause-by_index : goal.row-requires-2-clause-by_index
unfolding exponent
row-requires-2-clause-by_index c = (fit_in 192 64 1 32 tt tt, c.row.ensures)

pub row-requires-3-clause-by_index : goal.row-requires-3-clause-by_index
unfolding exponent
row-requires-3-clause-by_index c = (fit_in 160 32 1 32 tt tt, c.row-2.ensures)

pub row-requires-4-clause-by_index : goal.row-requires-4-clause-by_index
unfolding exponent
row-requires-4-clause-by_index c = (fit_in 128 0 1 32 tt tt, c.row-3.ensures)

pub row-requires-5-clause-by_index : goal.row-requires-5-clause-by_index
unfolding exponent
row-requires-5-clause-by_index c = (fit_in 96 64 2 32 tt tt, c.row-4.ensures)

pub row-requires-6-clause-by_index : goal.row-requires-6-clause-by_index
unfolding exponent
row-requires-6-clause-by_index c = (fit_in 64 0 2 32 tt tt, c.row-5.ensures)

pub row-requires-7-clause-by_index : goal.row-requires-7-clause-by_index
unfolding exponent
row-requires-7-clause-by_index c = (fit_in 32 0 4 32 tt tt, c.row-6.ensures)

pub row-requires-8-clause-by_index : goal.row-requires-8-clause-by_index
unfolding exponent
row-requires-8-clause-by_index c = (fit_in 16 0 8 16 tt tt, c.row-7.ensures)

pub row-requires-9-clause-by_index : goal.row-requires-9-clause-by_index
unfolding exponent
row-requires-9-clause-by_index c = (fit_in 8 0 16 8 tt tt, c.row-8.ensures)

pub row-requires-10-clause-by_index : goal.row-requires-10-clause-by_index
unfolding exponent
row-requires-10-clause-by_index c = (fit_in 4 0 32 4 tt tt, c.row-9.ensures)

pub row-requires-11-clause-by_index : goal.row-requires-11-clause-by_index
unfolding exponent
row-requires-11-clause-by_index c = (fit_in 2 0 64 2 tt tt, c.row-10.ensures)

pub row-requires-12-clause-by_index : goal.row-requires-12-clause-by_index
unfolding exponent
row-requires-12-clause-by_index c = (fit_in 1 0 128 1 tt tt, c.row-11.ensures)

pub returns : goal.returns
returns c = roots_made _ c.row-12.ensures
