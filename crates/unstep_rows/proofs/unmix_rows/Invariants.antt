use Rattle.std.proofs.Common.{length}
use Rattle.laws.proofs.Fill.{Filled}
use Rattle.unstep_rows.specs.Rows.{word_d}
use Rattle.unstep_rows.proofs.unmix_rows.Given as goal

-- The first j words stand.
abbrev pub invariant-loop-j : goal.invariant-loop-j
invariant-loop-j l =
    let n = length l.fn.out in
    Filled 0 n (word_d n l.i l.s l.x l.a l.b l.c l.d l.old l.w) l.j l.out
