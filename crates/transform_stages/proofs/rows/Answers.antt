-- Part by part, all butterflies of the stage.
use Rattle.std.proofs.Common.{◌≡◌, ◌+◌, ◌*◌, ◌/◌, ◌%◌, ◌≤◌, subst, arith}
use Rattle.transform_stages.proofs.Stages.{rows_lead}
use Rattle.transform_stages.proofs.rows.Goals as goal

pub more_rows-requires-clause-n_nonzero : goal.more_rows-requires-clause-n_nonzero
more_rows-requires-clause-n_nonzero c =
    let a = c.args in
    let at = c.loop-at.at in
    let here : 64 * (at / 64) ≡ at = omega (arith, c.loop-at.invariant.0) in
    let runs = c.requires.n_nonzero in
    (runs.0, runs.1, (λ r. subst (λ v. (v + r * a.n) % a.l + a.n ≤ a.l) here (runs.2 (at / 64) r)), c.requires.roots.1)

pub returns : goal.returns
returns c =
    let a = c.args in
    let some = c.requires.n_nonzero.2 0 0 in
    let all = rows_lead a.x.now a.t.now a.l a.half c.loop-at.y c.requires.roots.0 (omega (arith, some, c.requires.n_nonzero.0)) c.requires.x_len.3
    (record { here = λ b h. c.loop-at.invariant.3.here b (omega arith) }) in record { leads = all.0; spreads = all.1 }

-- The loop is left at the last part, or at once where there is none.
pub returns-2 : goal.returns-2
returns-2 c =
    let a = c.args in
    let some = c.requires.n_nonzero.2 0 0 in
    let all = rows_lead a.x.now a.t.now a.l a.half c.more_rows.new.y c.requires.roots.0 (omega (arith, some, c.requires.n_nonzero.0)) c.requires.x_len.3
    (record { here = λ b h. c.more_rows.ensures.here b (omega arith) }) in record { leads = all.0; spreads = all.1 }
