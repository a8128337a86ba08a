-- After i turns the digits of the first i bytes stand at the place.
use mathlib.Core.Path.{◌≡◌, sym, ap, ◌∙◌}
use mathlib.Core.List.{List, [], ◌∷◌}
use Prim.Native.Nat.{ℕ, ◌+◌, ◌*◌}
use native.Mathlib.Omega.{arith}
use lib.ListN.{length, take, set, length-append}
use lib.Seq.{length-take-le, take_all}
use Rattle.text.specs.Text.{over, hex as hexOf}
use Rattle.text.proofs.Over.{over_nil, over_byte, over_pair}
use Rattle.text.proofs.Words.{length_hex, hex_more}
use Rattle.text.proofs.hex.Goals as goal

pub loop-i-init : goal.loop-i-init
unfolding hexOf
loop-i-init c = sym (over_nil c.args.text.now c.args.at)

pub loop-i-preserved : goal.loop-i-preserved
loop-i-preserved c =
    let t = c.args.text.now in
    let l = c.loop-i in
    let n = c.args.at + 2 * l.i in
    let done = take l.i c.args.bytes.now in
    let size : length done ≡ l.i = length-take-le l.i c.args.bytes.now (omega arith) in
    (λ k. set (set (l.invariant k) n (c.glyph.ensures k)) (n + 1) (c.glyph-in-loop-i.ensures k))
    ∙ over_pair t c.args.at (hexOf done) _ _ n (omega (arith, length_hex done)) (omega arith)
    ∙ ap (over t c.args.at) (sym (hex_more c.args.bytes.now l.i c.loop-i-test.true))

pub returns : goal.returns
returns c =
    let t = c.args.text.now in
    let bytes = c.args.bytes.now in
    let n = c.args.at + 2 * length bytes in
    let all : take c.loop-i.i bytes ≡ bytes = take_all c.loop-i.i bytes c.loop-i-test.false in (
      (λ k. set (c.loop-i.invariant k) n c.args.end)
          ∙ ap (λ (s : List ℕ). set (over t c.args.at (hexOf s)) n c.args.end) all
          ∙ over_byte t c.args.at (hexOf bytes) c.args.end n (omega (arith, length_hex bytes)) (omega arith),
      omega (arith, length-append (hexOf bytes) (c.args.end ∷ []), length_hex bytes),
      omega arith,
    )
