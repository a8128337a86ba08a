use mathlib.Core.Path.{ap, ◌∙◌}
use lib.ListN.{take, drop}
use Rattle.bits.proofs.Parts.{back}
use Rattle.little_endian.proofs.Writing.{number_of}
use Rattle.little_endian.proofs.read_word.Goals as goal

pub returns : goal.returns
returns c =
    let a = c.args in
    let chunk = rw c.unwrap-word.ensures at c.first_chunk.ensures.cases in
    c.from_le_bytes.ensures ∙ number_of 3 (drop a.at a.bytes.now) c.unwrap-word.result.now (chunk.same ∙ ap (take 4) (back a.at a.bytes.now))
