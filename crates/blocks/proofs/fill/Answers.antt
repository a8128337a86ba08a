-- The bytes from the place on are put over zeros; past their end a read gives 0 too.
use mathlib.Core.Path.{refl, sym, ap, ◌∙◌}
use Prim.Native.Nat.{◌+◌, ◌-◌}
use native.Mathlib.Omega.{arith}
use lib.ListN.{length, get_or, drop, length-take, get_or-eq_default}
use lib.Seq.{get_or-take, get_or-drop}
use Rattle.bits.proofs.Zeros.{zero_at}
use Rattle.bits.proofs.Parts.{over}
use Rattle.blocks.proofs.fill.Goals as goal

pub returns : goal.returns
returns c =
    let a = c.args in
    let bytes = a.bytes.now in
    let count = c.min-count.result in
    let put = c.copy_from_slice.ensures.after in
    over c.copy_from_slice.new.self a.block.now (length a.block.now) count (λ j. get_or bytes (a.at + j) 0) refl (omega arith)
    (omega (arith, length-take count a.block.now))
    (λ i below. ap (λ l. get_or l i 0) put ∙ get_or-take (a.at + count - a.at) (drop a.at bytes) i 0 (omega arith) ∙ get_or-drop a.at bytes i 0)
    (λ i past below. zero_at a.block.now c.requires.1 i ∙ sym (get_or-eq_default bytes 0 {n = a.at + i} (omega arith)))
