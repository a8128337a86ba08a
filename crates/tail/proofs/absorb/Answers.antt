-- Each family compresses its blocks; the small one in the first 16 words.
use mathlib.Core.List.{List}
use mathlib.Core.Path.{sym, ap, ◌∙◌}
use Prim.Native.Nat.{ℕ, ◌/◌}
use borrow.Author.Tests.{le-leb, lt-leb}
use lib.ListN.{length}
use Rattle.simd.specs.Basic.{small}
use Rattle.iteration.specs.Blocks.{absorbed}
use Rattle.bits.specs.Zero.{padded}
use Rattle.tail.proofs.Absorbing.{whole_absorbed}
use Rattle.tail.proofs.absorb.Goals as goal

pub returns-then-width-le256 : goal.returns-then-width-le256
returns-then-width-le256 c =
    let a = c.args in
    let narrowed = c.narrow-small.ensures in
    let compressed = c.absorb.ensures ∙ ap (λ (s : List ℕ). absorbed small s a.bytes.now (length a.bytes.now / 64)) narrowed in
    rw (le-leb a.width 256 c.if-width-le256.true) (c.widen.ensures ∙ ap (padded 32) compressed)

pub returns-else-width-le256 : goal.returns-else-width-le256
returns-else-width-le256 c =
    let a = c.args in
    rw (lt-leb a.width 256 c.if-width-le256.false)
    (c.absorb-else-width-le256.ensures ∙ sym (whole_absorbed a.state.now a.bytes.now (length a.bytes.now / 128) c.requires))
