use Rattle.std.proofs.Common.{rules, ◌-◌, length, take, drop, ap, ◌∙◌}
use Rattle.std.proofs.lemmas.List.{drop_min}
use Rattle.bits.specs.Zero.{all_zero}
use Rattle.bits.proofs.Zeros.{or_zero}
use Rattle.bits.proofs.Parts.{back}
use Rattle.bits.proofs.words_zero.Goals as goal

pub returns : goal.returns
returns c =
    let words = c.args.words.now in
    let n = c.min.result in
    or_zero (take (length words - n) (drop n words)) c.fold.result (search rules)
    ∙ ap all_zero (back n words ∙ ap (λ n. drop n words) c.min.ensures ∙ drop_min c.args.from words)
