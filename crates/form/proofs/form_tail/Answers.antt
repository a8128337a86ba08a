-- The tail is the block behind the state, and the last one.
use mathlib.Core.Path.{ap, ◌∙◌}
use Prim.Native.Nat.{◌+◌}
use native.Mathlib.Omega.{arith}
use lib.ListN.{length, length-drop}
use Rattle.bits.specs.Zero.{padded}
use Rattle.bits.proofs.Parts.{back}
use Rattle.form.proofs.Current.{tail_read, at_least}
use Rattle.form.proofs.form_tail.Goals as goal

pub head_of-head-requires : goal.head_of-head-requires
head_of-head-requires c = (omega (arith, c.requires.0, at_least c.args.form.now c.requires.2), c.requires.1)

pub slice_bounds-read_bytes-count : goal.slice_bounds-read_bytes-count
slice_bounds-read_bytes-count c =
    omega (arith, c.requires.0, c.head_of-head.ensures, at_least c.args.form.now c.requires.2)

pub slice_bounds-read_bytes-start : goal.slice_bounds-read_bytes-start
slice_bounds-read_bytes-start c =
    omega (arith, c.requires.0, c.head_of-head.ensures, at_least c.args.form.now c.requires.2)

pub read_bytes-requires : goal.read_bytes-requires
read_bytes-requires c =
    let form = c.args.form.now in
    let start = c.head_of-head.result + c.args.size in
    omega (arith, c.requires.0, c.head_of-head.ensures, at_least form c.requires.2, ap length (back start form), length-drop start form)

pub returns : goal.returns
returns c =
    let head = c.head_of-head in
    c.read_bytes.ensures
    ∙ ap (padded 128) (back (head.result + c.args.size) c.args.form.now ∙ tail_read c.args.form.now c.args.size head.result c.requires.0 c.requires.2 head.ensures)
