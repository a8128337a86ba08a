-- What is written is the expanded block.
use mathlib.Core.List.{◌++◌, flatten}
use mathlib.Core.Path.{ap, ◌∙◌}
use lib.ListN.{drop}
use borrow.Author.Rules.{rules}
use Rattle.simd.specs.Basic.{large}
use Rattle.expansion.proofs.Values.{is_rows}
use Rattle.expansion.proofs.write_large.Goals as goal

pub put-requires : goal.put-requires
put-requires c =
    let a = c.args in
    (search rules, (search rules, (is_rows large a.last a.block.now c.expand_large-rows.ensures, search rules)))

pub returns : goal.returns
returns c =
    let out = c.args.out.now in
    c.put.ensures ∙ ap (λ rows. flatten rows ++ drop 256 out) c.expand_large-rows.ensures
