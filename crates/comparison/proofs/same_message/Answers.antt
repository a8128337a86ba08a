-- Messages of one length are the same where the bits behind the equal bytes are.
use Rattle.std.proofs.Common.{sym, ap, ◌∙◌, length, arith}
use Rattle.simd.specs.Basic.{family_of}
use Rattle.hash.proofs.Feeding.{length_message}
use Rattle.pairs.proofs.ListLaws.{not_equal}
use Rattle.comparison.proofs.SharedLaws.{rest_decides}
use Rattle.comparison.proofs.same_message.Goals as goal

pub behind-rest-requires : goal.behind-rest-requires
behind-rest-requires c = c.requires.first

pub behind-requires : goal.behind-requires
behind-requires c = c.requires.second

pub same_bits-requires : goal.same_bits-requires
same_bits-requires c =
    let x = c.behind-rest.result in
    let y = c.behind.result in
    (x.within, omega (arith, y.within, c.behind-rest.ensures.1, c.behind.ensures.1, c.if-x-y.true))

pub returns-then-x-y : goal.returns-then-x-y
returns-then-x-y c =
    rest_decides (family_of c.args.width) c.if-x-y.true c.requires c.behind-rest.ensures.0 c.behind.ensures.0 c.behind-rest.ensures.1 c.same_bits.ensures

pub returns : goal.returns
returns c =
    let x = c.args.x in
    let y = c.args.y in
    sym (not_equal _ _ (λ e. c.if-x-y.false (sym (length_message _ _ x.within) ∙ ap length e ∙ length_message _ _ y.within)))
