-- Past the last byte, all of them are those of the masked block.
use mathlib.Core.Path.{◌≡◌, sym, ap, ◌∙◌}
use Prim.Native.Nat.{ℕ}
use native.Mathlib.Omega.{arith}
use lib.Bits.{bit_xor}
use lib.ListN.{length, get_or}
use Rattle.simd.specs.Basic.{table}
use Rattle.bits.proofs.Filling.{filled_all}
use Rattle.hmac_key.specs.Hmac.{masked}
use Rattle.hmac_key.proofs.mask.Goals as goal

pub returns : goal.returns
unfolding masked
returns c =
    let l = c.loop-byte in
    let a = c.args in
    let size : length a.block ≡ 128 = omega arith in
    filled_all 128 l.byte-index _ l.byte-items l.invariant.0 (omega arith)
    ∙ ap (λ (n : ℕ). table n (λ j. bit_xor (get_or a.block j 0) a.pad)) (sym size)
