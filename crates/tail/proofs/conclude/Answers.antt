-- Each family compresses its blocks and the length block; the small one in the first 16 words.
use mathlib.Core.Bool.{true}
use mathlib.Core.List.{List}
use mathlib.Core.Path.{sym, ap, ◌∙◌}
use Prim.Native.Nat.{ℕ}
use borrow.Author.Tests.{le-leb, lt-leb}
use Rattle.simd.specs.Basic.{small, large}
use Rattle.simd.specs.Message.{message, message_blocks, length_block}
use Rattle.simd.specs.Steps.{compression}
use Rattle.simd.specs.Hash.{chain}
use Rattle.bits.specs.Zero.{padded}
use Rattle.tail.proofs.Absorbing.{whole_concluded}
use Rattle.tail.proofs.conclude.Goals as goal

pub returns-then-width-le256 : goal.returns-then-width-le256
returns-then-width-le256 c =
    let a = c.args in
    let m = message a.bytes.now a.count in
    let narrowed = c.narrow-small.ensures in
    let compressed =
    c.conclude.ensures
    ∙ ap (λ (s : List ℕ). compression small true (chain small s m (message_blocks small a.count)) (length_block small a.bits)) narrowed in
    rw (le-leb a.width 256 c.if-width-le256.true) (c.widen.ensures ∙ ap (padded 32) compressed)

pub returns-else-width-le256 : goal.returns-else-width-le256
returns-else-width-le256 c =
    let a = c.args in
    rw (lt-leb a.width 256 c.if-width-le256.false)
    (c.conclude-else-width-le256.ensures
    ∙ sym (whole_concluded a.state.now (message a.bytes.now a.count) (message_blocks large a.count) (length_block large a.bits)
    c.requires.0))
