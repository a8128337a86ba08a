use mathlib.Core.Path.{sym, ◌∙◌}
use Prim.Native.Nat.{◌*◌}
use native.Mathlib.Omega.{arith}
use lib.ListN.{length}
use Rattle.bits.proofs.Filling.{filled_all}
use Rattle.little_endian.proofs.Writing.{word_byte, word_more, take_bytes}
use Rattle.little_endian.proofs.write_words.Goals as goal

pub loop-i-preserved : goal.loop-i-preserved
loop-i-preserved c =
    let l = c.loop-i in
    let written = c.copy_from_slice.ensures.after ∙ c.to_le_bytes-bytes.ensures in
    word_more (length c.args.out.now) l.i c.args.words l.out c.copy_from_slice.new.self l.invariant (omega arith) written

pub returns : goal.returns
returns c =
    let l = c.loop-i in
    let n = length c.args.out.now in
    filled_all n (4 * l.i) (word_byte c.args.words) l.out l.invariant (omega arith)
    ∙ sym (take_bytes n c.args.words (omega (arith, c.requires, c.well_formed.1.0.1.0.1)))
