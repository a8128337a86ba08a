-- Each turn does one run of butterflies, which are of one place, and leaves the earlier ones as they are.
use Rattle.std.proofs.Common.{◌≡◌, ℕ, ◌+◌, ◌*◌, ◌/◌, ◌%◌, ◌<◌, ◌≤◌, subst, div-lt_iff_lt-mul, div-add-mod', arith}
use Rattle.transform_stages.specs.Stage.{Crossed}
use Rattle.transform_stages.proofs.Stages.{one_more, crossed_more}
use Rattle.transform_stages.proofs.more_rows.Goals as goal

-- The run r ends within the 64 places.
within : (r n : ℕ) → r < 64 / n → 64 / n * n ≡ 64 → r * n + n ≤ 64
within r n turn whole = omega (arith, one_more r (64 / n) n turn)

-- The row of a place within the first half ends there too.
row_fits : (i l half : ℕ) → 0 < l → half % l ≡ 0 → i < half → i / l * l + l ≤ half
row_fits i l half some whole below =
    let rows = div-add-mod' half l in
    omega (arith, one_more (i / l) (half / l) l ((div-lt_iff_lt-mul {k = l} some).1 (omega arith)))

pub butterflies-requires-clause-n_in_bounds : goal.butterflies-requires-clause-n_in_bounds
butterflies-requires-clause-n_in_bounds c =
    let a = c.args in
    let i = a.at + c.loop-r.r * a.n in
    let parts = div-add-mod' i a.l in
    let inside = within c.loop-r.r a.n (omega arith) c.requires.n_nonzero.1 in
    let in_row = c.requires.n_nonzero.2 c.loop-r.r in
    let row = row_fits i a.l a.half (omega (arith, in_row, c.requires.n_nonzero.0)) c.requires.x_len.3 (omega (arith, inside, c.requires.n_nonzero.0)) in
    (omega (arith, inside), omega (arith, row, in_row, parts, c.loop-r.invariant.0), omega (arith, in_row, parts), c.requires.x_len.4, c.requires.x_len.5)

pub butterflies-requires-clause-by_index : goal.butterflies-requires-clause-by_index
butterflies-requires-clause-by_index c = λ k h.
    c.requires.n_nonzero.3 (c.args.at + c.loop-r.r * c.args.n + k) (omega (arith, within c.loop-r.r c.args.n (omega arith) c.requires.n_nonzero.1))

pub loop-r-preserved : goal.loop-r-preserved
loop-r-preserved c =
    let made = c.butterflies in
    let a = c.args in
    let loop = c.loop-r in (
      omega arith,
      subst (λ v. Crossed a.l a.half v a.x.now a.t.now made.new.y) (omega arith)
          (crossed_more a.x.now a.t.now a.l a.half (a.at + loop.r * a.n) a.n (c.requires.n_nonzero.2 loop.r) loop.y made.new.y loop.invariant.1
          made.ensures.by_index_2 made.ensures.by_index_3 c.requires.n_nonzero.0),
    )
