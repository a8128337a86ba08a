-- The tests in turn: both hashes legal, one width, the inner one long enough, the outer one exactly a block.
use mathlib.Core.Path.{◌≡◌, sym, ◌∙◌}
use Prim.Native.Nat.{◌*◌}
use native.Mathlib.Omega.{arith}
use borrow.Author.Tests.{ne_eqb}
use Rattle.simd.specs.Basic.{block_bits}
use Rattle.tail.proofs.Sizes.{bytes_within}
use Rattle.hash.specs.Open.{family}
use Rattle.hmac_parts.proofs.Keyed.{inner_illegal, outer_illegal, other_width, too_short, length_decides}
use Rattle.hmac_parts.proofs.is_keyed.Goals as goal

pub returns-then-not-is_legal : goal.returns-then-not-is_legal
returns-then-not-is_legal c = inner_illegal c.args.inner.now c.args.outer.now (sym c.is_legal.ensures ∙ c.if-not-is_legal.true)

pub returns-then-not-is_legal-2 : goal.returns-then-not-is_legal-2
returns-then-not-is_legal-2 c =
    outer_illegal c.args.inner.now c.args.outer.now (sym c.is_legal.ensures ∙ c.if-not-is_legal.false)
    (sym c.is_legal-2.ensures ∙ c.if-not-is_legal-2.true)

pub returns-then-outer-inner : goal.returns-then-outer-inner
returns-then-outer-inner c =
    let a = c.args in
    other_width a.inner.now a.outer.now (sym c.is_legal.ensures ∙ c.if-not-is_legal.false) (sym c.is_legal-2.ensures ∙ c.if-not-is_legal-2.false)
    (ne_eqb a.outer.now.width a.inner.now.width c.if-outer-inner.true)

pub overflow_mul-block : goal.overflow_mul-block
overflow_mul-block c = omega (arith, c.block_bytes-block.ensures, bytes_within (family c.args.inner.now))

pub returns-then-inner-block : goal.returns-then-inner-block
returns-then-inner-block c =
    too_short c.args.inner.now c.args.outer.now (sym c.is_legal.ensures ∙ c.if-not-is_legal.false)
    (sym c.is_legal-2.ensures ∙ c.if-not-is_legal-2.false) c.if-outer-inner.false
    (omega (arith, c.if-inner-block.true, c.block_bytes-block.ensures))

pub returns : goal.returns
returns c =
    let a = c.args in
    let sized : 8 * c.block_bytes-block.result ≡ block_bits (family a.inner.now) = omega (arith, c.block_bytes-block.ensures) in
    length_decides a.inner.now a.outer.now (sym c.is_legal.ensures ∙ c.if-not-is_legal.false)
    (sym c.is_legal-2.ensures ∙ c.if-not-is_legal-2.false) c.if-outer-inner.false (8 * c.block_bytes-block.result) sized
    (omega (arith, c.if-inner-block.false, sized))
