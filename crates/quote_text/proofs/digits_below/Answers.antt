-- Each character is a digit below the number.
use Rattle.std.proofs.Common.{rules, tests, ◌∙◌}
use Rattle.std.proofs.lemmas.Iterator.{YieldsList-from_slice}
use Rattle.std.proofs.lemmas.Iterator.Search.{all_from_yields_List}
use lib.Dec.{ltb}
use Rattle.text.specs.Text.{digit_of}
use Rattle.quote_text.proofs.Shown.{all_below}
use Rattle.quote_text.proofs.digits_below.Goals as goal

pub returns : goal.returns
returns c =
    all_from_yields_List (λ x. ltb (digit_of x) c.args.most) _ _ c.all.result c.all.ensures.ran (YieldsList-from_slice c.args.text.now cc)
    (λ x b q k. search (rules, tests))
    ∙ all_below _ _
