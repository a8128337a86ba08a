-- Two numbers are written one behind the other, and fill the output.
use mathlib.Core.Path.{ap, ◌∙◌}
use lib.ListN.{length, take}
use Rattle.little_endian.specs.Numbers.{little_endian}
use Rattle.form.proofs.Forming.{head_written}
use Rattle.form.proofs.write_head.Goals as goal

pub returns : goal.returns
returns c =
    let a = c.args in
    head_written a.width a.bits a.out.now c.requires c.write_number.new.out c.write_number-2.new.out
    (c.write_number.ensures ∙ ap (λ n. little_endian (length (take 2 a.out.now)) n) c.from-number.ensures) c.write_number-2.ensures
