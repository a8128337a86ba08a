-- The bits past a place are the low bits of its byte and all bytes behind it.
use mathlib.Core.Path.{sym, ap, ◌∙◌}
use Prim.Native.Nat.{◌+◌, ◌/◌, ◌%◌}
use Rattle.bits.specs.Zero.{all_zero}
use Rattle.bits.proofs.Parts.{back}
use Rattle.bits.proofs.Stream.{bits_end, bits_set, bits_clear}
use Rattle.bits.proofs.bits_zero.Goals as goal

pub returns-then-bytes-at : goal.returns-then-bytes-at
returns-then-bytes-at c = sym (bits_end c.args.from c.args.bytes.now c.if-bytes-at.true)

pub returns-then-from-scale_of-ne0 : goal.returns-then-from-scale_of-ne0
returns-then-from-scale_of-ne0 c =
    let read = c.from.ensures in
    let scale = c.scale_of.ensures.0 in
    sym (bits_set c.args.from c.args.bytes.now (λ i. (c.type_inv.bytes i).fits)
    (λ zero. c.if-from-scale_of-ne0.true ((λ i. read i % scale i) ∙ zero)))

pub returns : goal.returns
returns c =
    let read = c.from.ensures in
    let scale = c.scale_of.ensures.0 in
    c.bytes_zero.ensures
    ∙ ap all_zero (back (c.args.from / 8 + 1) c.args.bytes.now)
    ∙ sym (bits_clear c.args.from c.args.bytes.now (λ i. (c.type_inv.bytes i).fits)
    (sym (λ i. read i % scale i) ∙ c.if-from-scale_of-ne0.false))
