-- Refused, the hash stays; else it holds what `advance` leaves of its state and tail.
use Rattle.std.proofs.lemmas.Result.{err_from_is_err_and}
use native.Mathlib.Omega.{arith}
use lib.ListN.{length-take}
use borrow.Author.Rules.{rules}
use Rattle.hash.proofs.Answers.{feed_refused, feed_facts, ready, feed_answered}
use Rattle.hash.proofs.Hash.absorb.Goals as goal

pub returns-in_err-feed_refusal : goal.returns-in_err-feed_refusal
returns-in_err-feed_refusal c =
    let a = c.args in
    let p = err_from_is_err_and c.from_residual.result c.from_residual.ensures.1 in
    rw (p.1, p.2) (feed_refused _ a.self.now a.piece.now a.count c.in_err-feed_refusal.ensures)

pub slice_bounds-advance-end : goal.slice_bounds-advance-end
slice_bounds-advance-end c =
    let a = c.args in
    omega (arith, c.bytes_of_bits-bytes.ensures, (feed_facts a.self.now a.piece.now a.count c.in_ok-feed_refusal.ensures).whole.within)

pub slice_bounds-advance-end-2 : goal.slice_bounds-advance-end-2
slice_bounds-advance-end-2 c =
    let a = c.args in
    omega (
      arith,
      c.bytes_of_bits-bytes.ensures,
      length-take c.bytes_of_bits-bytes.result a.piece.now,
      (feed_facts a.self.now a.piece.now a.count c.in_ok-feed_refusal.ensures).whole.within,
    )

pub advance-blocks-requires : goal.advance-blocks-requires
advance-blocks-requires c =
    let a = c.args in
    ready a.self.now a.piece.now a.count (feed_facts a.self.now a.piece.now a.count c.in_ok-feed_refusal.ensures) c.bytes_of_bits-bytes.result
    c.bytes_of_bits-bytes.ensures c.used_bits-used.result c.used_bits-used.ensures (search rules) (search rules)

pub overflow_add-self : goal.overflow_add-self
overflow_add-self c =
    let a = c.args in
    omega (arith, (feed_facts a.self.now a.piece.now a.count c.in_ok-feed_refusal.ensures).whole.short)

pub returns : goal.returns
returns c =
    let a = c.args in
    let b = c.bytes_of_bits-bytes in
    let call = c.advance-blocks in
    feed_answered a.self.now a.piece.now a.count (feed_facts a.self.now a.piece.now a.count c.in_ok-feed_refusal.ensures) b.result b.ensures
    c.used_bits-used.result c.used_bits-used.ensures c.in_ok-feed_refusal.ensures call.new.state call.new.tail call.result call.ensures
