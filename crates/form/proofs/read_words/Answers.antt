use mathlib.Core.Path.{◌∙◌}
use native.Mathlib.Omega.{arith}
use lib.ListN.{drop}
use Rattle.simd.specs.Basic.{words_of}
use Rattle.laws.proofs.LittleEndian.{length_words_of}
use Rattle.bits.proofs.Filling.{copied_none, copied_more, copied_all}
use Rattle.form.proofs.Forming.{word_read}
use Rattle.form.proofs.read_words.Goals as goal

pub loop-i-init : goal.loop-i-init
loop-i-init c = copied_none 32 (words_of c.args.words (drop c.args.at c.args.bytes.now))

pub loop-i-preserved : goal.loop-i-preserved
loop-i-preserved c =
    let l = c.loop-i in
    let a = c.args in
    copied_more 32 l.i (words_of a.words (drop a.at a.bytes.now)) l.state c.read_word.result l.invariant (omega arith)
    (c.read_word.ensures ∙ word_read a.bytes.now a.at a.words l.i (omega arith))

pub returns : goal.returns
returns c =
    let l = c.loop-i in
    let a = c.args in
    let words = words_of a.words (drop a.at a.bytes.now) in
    copied_all 32 l.i words l.state l.invariant (omega (arith, length_words_of a.words (drop a.at a.bytes.now)))
