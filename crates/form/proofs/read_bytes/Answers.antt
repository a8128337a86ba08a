use mathlib.Core.List.{◌++◌}
use mathlib.Core.Path.{ap, ◌∙◌}
use lib.ListN.{length, drop, replicate}
use Rattle.bits.proofs.Parts.{over_zeros}
use Rattle.form.proofs.read_bytes.Goals as goal

pub returns : goal.returns
returns c =
    let bytes = c.args.bytes.now in
    ap (λ l. l ++ drop (length bytes) (replicate 128 0)) c.copy_from_slice.ensures.after ∙ over_zeros 128 bytes c.requires
