-- The invariant: the first i bytes are copied.
use mathlib.Core.Path.{refl, sym, ◌∙◌}
use native.Mathlib.Omega.{arith}
use lib.ListN.{length, get_or}
use Rattle.bits.proofs.Filling.{filled_none, filled_more, filled_all, take_table}
use Rattle.form.proofs.write_bytes.Goals as goal

pub loop-i-init : goal.loop-i-init
loop-i-init c = filled_none (length c.args.out.now) (λ k. get_or c.args.src.now k 0) c.args.out.now refl

pub loop-i-preserved : goal.loop-i-preserved
loop-i-preserved c =
    let l = c.loop-i in
    let a = c.args in
    filled_more (length a.out.now) l.i (λ k. get_or a.src.now k 0) l.out (get_or a.src.now l.i 0) l.invariant (omega arith) refl

pub returns : goal.returns
returns c =
    let l = c.loop-i in
    let n = length c.args.out.now in
    filled_all n l.i (λ k. get_or c.args.src.now k 0) l.out l.invariant (omega arith) ∙ sym (take_table n c.args.src.now c.requires)
