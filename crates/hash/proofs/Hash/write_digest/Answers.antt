-- Refused, nothing is written; else the first bytes of the state that `close` leaves, which are the digest.
use Rattle.std.proofs.lemmas.Result.{err_from_is_err_and}
use native.Mathlib.Omega.{arith}
use lib.ListN.{length-take}
use Rattle.tail.proofs.Sizes.{words_within}
use Rattle.hash.specs.Open.{family}
use Rattle.hash.proofs.Holding.{legal_width}
use Rattle.hash.proofs.Digests.{digest_room, digest_words}
use Rattle.hash.proofs.Answers.{take_refusal_lem, take_refused, take_facts, take_answered}
use Rattle.hash.proofs.Hash.write_digest.Goals as goal

pub returns-in_err-output_refusal : goal.returns-in_err-output_refusal
returns-in_err-output_refusal c =
    let a = c.args in
    let p = err_from_is_err_and c.from_residual.result c.from_residual.ensures.1 in
    rw (p.1, p.2)
    (take_refused _ a.self.now a.out.now (take_refusal_lem a.self.now a.out.now c.digest_bytes-length.ensures c.in_err-output_refusal.ensures))

pub slice_bounds-write_words-end : goal.slice_bounds-write_words-end
slice_bounds-write_words-end c =
    let a = c.args in
    let d = c.digest_bytes-length.ensures in
    omega (arith, (take_facts a.self.now a.out.now (take_refusal_lem a.self.now a.out.now d c.in_ok-output_refusal.ensures)).1, d)

pub write_words-requires : goal.write_words-requires
write_words-requires c =
    let a = c.args in
    let d = c.digest_bytes-length in
    let facts = take_facts a.self.now a.out.now (take_refusal_lem a.self.now a.out.now d.ensures c.in_ok-output_refusal.ensures) in
    let known = legal_width a.self.now facts.0 in
    let width = a.self.now.width in
    let room = digest_room width known in
    omega (arith, facts.1, length-take d.result a.out.now, d.ensures, room, digest_words width known, words_within (family a.self.now))

pub returns : goal.returns
returns c =
    let w = c.write_words in
    let a = c.args in
    let d = c.digest_bytes-length in
    take_answered a.self.now a.out.now (take_refusal_lem a.self.now a.out.now d.ensures c.in_ok-output_refusal.ensures) d.result d.ensures
    c.close-compressed.new.state w.new.out c.close-compressed.result c.close-compressed.ensures.0 c.close-compressed.ensures.1 w.ensures
