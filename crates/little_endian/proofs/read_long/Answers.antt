use mathlib.Core.Path.{ap, ◌∙◌}
use lib.ListN.{take, drop}
use Rattle.bits.proofs.Parts.{back}
use Rattle.little_endian.proofs.Writing.{number_of}
use Rattle.little_endian.proofs.read_long.Goals as goal

pub returns : goal.returns
returns c =
    let a = c.args in
    let chunk = rw c.unwrap-long.ensures at c.first_chunk.ensures.cases in
    c.from_le_bytes.ensures ∙ number_of 7 (drop a.at a.bytes.now) c.unwrap-long.result.now (chunk.same ∙ ap (take 8) (back a.at a.bytes.now))
