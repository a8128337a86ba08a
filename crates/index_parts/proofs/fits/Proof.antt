-- The size first, so that there is a head to read; then the width and the length in it.
use mathlib.Core.Path.{◌≡◌, sym, ap, ◌∙◌}
use Prim.Native.Nat.{ℕ}
use native.Mathlib.Omega.{arith}
use borrow.Author.Rules.{rules}
use lib.Dec.{eqb}
use lib.ListN.{length}
use Rattle.checkpoints.specs.Index.{index_bytes}
use Rattle.index_parts.proofs.Refusals.{other_size, other_width, length_decides}
use Rattle.index_parts.proofs.fits.Statement.{statement}
use Rattle.index_parts.proofs.fits.Tie as tie

returns : tie.Need-returns-then-index-index_bytes
returns c =
    let a = c.args in
    other_size a.width a.count a.index.now (λ e. omega (arith, c.if-index-index_bytes.true, e, c.index_bytes.ensures))

-- An index of the right size.
sized : (c : tie.Else-index-index_bytes) → let a = c.args in length a.index.now ≡ index_bytes a.width a.count
sized c = omega (arith, c.if-index-index_bytes.false, c.index_bytes.ensures)

read-width-requires : tie.Need-read_width-requires
read-width-requires c κs = omega (arith, sized c)

returns-2 : tie.Need-returns-then-read_width-width
returns-2 c =
    let a = c.args in
    other_width a.width a.count a.index.now (sized c.before.before) (λ e. c.if-read_width-width.true (c.read_width.ensures ∙ e))

read-bits-requires : tie.Need-read_bits-requires
read-bits-requires c κs = omega (arith, sized c.before.before)

returns-3 : tie.Need-returns
returns-3 c =
    let a = c.args in
    ap (λ (n : ℕ). eqb n a.count) c.read_bits.ensures
    ∙ length_decides a.width a.count a.index.now (sized c.before.before.before) (sym c.read_width.ensures ∙ c.if-read_width-width.false)

pub fits_spec : {M : Type 1} → statement M
fits_spec =
    tie.close
    (tie.spec (λ c κs. search rules) returns read-width-requires returns-2 read-bits-requires returns-3)
