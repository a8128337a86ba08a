-- The tests in turn: the piece has the bytes, and the total is within the limit.
use native.Mathlib.Omega.{arith}
use Rattle.hash.proofs.Refusing.{count_above, total_above, total_within}
use Rattle.hash.proofs.piece_refusal.Goals as goal

pub returns-then-piece-bytes_of_bits : goal.returns-then-piece-bytes_of_bits
returns-then-piece-bytes_of_bits c =
    let a = c.args in
    count_above a.bits a.piece.now a.count (omega (arith, c.if-piece-bytes_of_bits.true, c.bytes_of_bits.ensures))

pub returns-then-bits-count : goal.returns-then-bits-count
returns-then-bits-count c =
    let a = c.args in
    total_above a.bits a.piece.now a.count (omega (arith, c.if-piece-bytes_of_bits.false, c.bytes_of_bits.ensures)) (omega (arith, c.if-bits-count.true))

pub returns : goal.returns
returns c =
    let a = c.args in
    total_within a.bits a.piece.now a.count (omega (arith, c.if-piece-bytes_of_bits.false, c.bytes_of_bits.ensures)) (omega (arith, c.if-bits-count.false))
