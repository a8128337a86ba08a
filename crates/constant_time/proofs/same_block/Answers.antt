-- A turn takes the bytes at the number of turns before it; after the last one all are passed.
use Rattle.std.proofs.Common.{arith}
use Rattle.std.proofs.lemmas.List.{length_push}
use Rattle.std.proofs.lemmas.Slice.Zip.{zip_turn, zip_end}
use Rattle.constant_time.proofs.Seen.{seen_more, seen_all}
use Rattle.constant_time.proofs.same_block.Goals as goal

pub loop-a-preserved : goal.loop-a-preserved
loop-a-preserved c =
    let here =
    zip_turn c.args.x.now c.args.y.now c.loop-a.yielded c.into_iter-a-iterator.result c.loop-a.a-iterator c.next.new.self c.next.result (cc) (cc) c.loop-a.yielded_by (c.in-Some.a, c.in-Some.b) c.in-Some.is c.next.ensures.steps in
    rw (length_push c.loop-a.yielded (c.in-Some.a, c.in-Some.b), here.2 0, here.3 0) (seen_more c.loop-a.invariant)

pub returns : goal.returns
returns c =
    let end =
    zip_end c.args.x.now c.args.y.now c.loop-a.yielded c.into_iter-a-iterator.result c.loop-a.a-iterator c.next.new.self c.next.result (cc) (cc) c.loop-a.yielded_by c.in-None.is c.next.ensures.steps in
    seen_all _ c.loop-a.invariant c.requires (omega (arith, end))
