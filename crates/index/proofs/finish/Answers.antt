-- The run, the first bytes of the final state, and the blocks that are not skipped.
use Prim.Native.Nat.{◌-◌}
use native.Mathlib.Omega.{arith}
use borrow.Author.Rules.{rules}
use lib.ListN.{take, length-take}
use Rattle.simd.specs.Basic.{family_of, state_words}
use Rattle.simd.specs.Message.{message}
use Rattle.laws.proofs.Chain.{length_compression}
use Rattle.tail.proofs.Sizes.{words_within}
use Rattle.hash.proofs.Answers.{state_written}
use Rattle.hash.proofs.Digests.{digest_room, digest_words}
use Rattle.checkpoints.specs.Index.{final_from}
use Rattle.index.proofs.finish.Goals as goal

pub write_words-requires : goal.write_words-requires
write_words-requires c =
    let width = c.args.width in
    omega (
      arith,
      c.requires.5,
      length-take (c.digest_bytes-length.result - 0) c.args.out.now,
      c.digest_bytes-length.ensures,
      digest_room width c.requires.0,
      digest_words width c.requires.0,
      words_within (family_of width),
    )

pub returns : goal.returns
unfolding final_from
returns c =
    let a = c.args in
    let f = family_of a.width in
    let final = final_from f (take (state_words f) a.from) (message a.message.now a.count) a.i in record {
      value = c.compressed.ensures;
      states_after = c.run_from.ensures.states_after;
      out_after = state_written a.width c.requires.0 final a.out.now (length_compression f _ _ _) c.requires.5 c.digest_bytes-length.ensures
          c.run_from.ensures.state_after c.write_words.ensures;
    }
