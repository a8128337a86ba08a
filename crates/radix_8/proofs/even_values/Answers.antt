-- No sum passes 16 bits and no difference is below zero. The four results are the even values.
use Rattle.radix_8.proofs.Fours.{even_values}
use Rattle.radix_8.proofs.even_values.Goals as goal

pub returns : goal.returns
returns c =
    let a = c.args in
    let pre = c.requires in
    even_values a.a a.b a.c a.d (pre.0, pre.1, pre.2) pre.3
