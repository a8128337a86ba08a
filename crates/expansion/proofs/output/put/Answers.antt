-- Row by row, the lent words take the rows.
use mathlib.Core.Path.{sym}
use Prim.Native.Nat.{ℕ, ◌+◌, ◌*◌, ◌<◌, ◌≤◌}
use Rattle.std.proofs.Math.Nat.{mul-le-mul_left}
use native.Mathlib.Omega.{arith}
use Rattle.expansion.proofs.Written.{written_none, written_more, written_all}
use borrow.Author.Rules.{rules}
use Rattle.expansion.proofs.output.put.Goals as goal

pub slice_bounds-put_row-end : goal.slice_bounds-put_row-end
slice_bounds-put_row-end g c =
    sym (c.requires.0.width c.loop-i.i (search rules))

-- Each row of 32 has its place in the lent words.
inside : (r i n : ℕ) → i < 32 → r * 32 ≤ n → r * i + r ≤ n
inside r i n below all = omega (arith, mul-le-mul_left r (let more : i + 1 ≤ 32 = omega arith in more))

pub put_row-requires : goal.put_row-requires
put_row-requires g c =
    let room = inside g.row.R c.loop-i.i _ (omega arith) c.requires.1 in
    omega (arith, room, c.requires.0.width c.loop-i.i (search rules), c.loop-i.invariant.size)

pub loop-i-preserved : goal.loop-i-preserved
loop-i-preserved g c =
    let wide = c.requires.0.width c.loop-i.i (search rules) in
    written_more c.loop-i.invariant c.put_row.ensures wide (inside g.row.R c.loop-i.i _ (omega arith) c.requires.1)

pub returns : goal.returns
returns g c =
    written_all g.row.R 32 c.args.rows.now c.requires.0.count c.loop-i.invariant (search rules) (search rules)

pub loop-i-init : goal.loop-i-init
loop-i-init g c = written_none
