-- What is written is the expanded block.
use mathlib.Core.List.{◌++◌, flatten}
use mathlib.Core.Path.{ap, ◌∙◌}
use lib.ListN.{drop}
use borrow.Author.Rules.{rules}
use Rattle.simd.specs.Basic.{small}
use Rattle.expansion.proofs.Values.{is_rows}
use Rattle.expansion.proofs.write_small.Goals as goal

pub put-requires : goal.put-requires
put-requires c =
    let a = c.args in
    (search rules, (search rules, (is_rows small a.last a.block.now c.expand_small-rows.ensures, search rules)))

pub returns : goal.returns
returns c =
    let out = c.args.out.now in
    c.put.ensures ∙ ap (λ rows. flatten rows ++ drop 128 out) c.expand_small-rows.ensures
