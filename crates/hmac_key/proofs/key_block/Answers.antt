-- A key of at most a block is copied over zeros; of a longer one the digest is written over zeros.
use mathlib.Core.Path.{refl, ◌∙◌}
use native.Mathlib.Omega.{arith}
use borrow.Author.Rules.{rules}
use Rattle.bits.specs.Zero.{all_zero}
use Rattle.hmac_key.proofs.Bytes.{ok_at_0}
use Rattle.hmac_key.proofs.KeyBlock.{short_key, accepted, hashed_key}
use Rattle.hmac_key.proofs.key_block.Goals as goal

pub fill-requires : goal.fill-requires
unfolding all_zero
fill-requires c = (search rules, refl)

pub overflow_mul-key : goal.overflow_mul-key
overflow_mul-key c = omega (arith, c.requires.1)

pub unwrap-requires : goal.unwrap-requires
unwrap-requires c = ok_at_0 _ (c.digest.ensures.value ∙ accepted c.args.width c.requires.0 c.args.key.now c.requires.1)

pub returns-then-key-block_bytes : goal.returns-then-key-block_bytes
returns-then-key-block_bytes c =
    let a = c.args in
    short_key a.width a.key.now _ (omega (arith, c.if-key-block_bytes.true, c.block_bytes.ensures)) c.fill.ensures

pub returns-else-key-block_bytes : goal.returns-else-key-block_bytes
returns-else-key-block_bytes c =
    hashed_key c.args.width c.requires.0 c.args.key.now c.requires.1 _ (omega (arith, c.if-key-block_bytes.false, c.block_bytes.ensures))
    c.digest.ensures.out_after
