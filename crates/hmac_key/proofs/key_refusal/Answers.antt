-- The tests in turn: the width, and the key's length against an eighth of the limit.
use mathlib.Core.Path.{sym, ◌∙◌}
use native.Mathlib.Omega.{arith}
use Rattle.hmac_key.proofs.KeyBlock.{unknown_width, long_key, key_accepted}
use Rattle.hmac_key.proofs.key_refusal.Goals as goal

pub returns-then-not-is_width : goal.returns-then-not-is_width
returns-then-not-is_width c =
    let a = c.args in
    let test = c.is_width in
    unknown_width a.width a.bytes (sym test.ensures ∙ c.if-not-is_width.true)

pub returns-then-bytes : goal.returns-then-bytes
returns-then-bytes c =
    let a = c.args in
    let test = c.is_width in
    long_key a.width a.bytes (sym test.ensures ∙ c.if-not-is_width.false) (omega (arith, c.if-bytes.true))

pub returns : goal.returns
returns c =
    let a = c.args in
    let test = c.is_width in
    key_accepted a.width a.bytes (sym test.ensures ∙ c.if-not-is_width.false) (omega (arith, c.if-bytes.false))
