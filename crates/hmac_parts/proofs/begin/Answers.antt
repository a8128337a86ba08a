-- The width is known and a block is short, so that nothing is refused.
use mathlib.Core.Path.{◌≡◌, sym, ap, ◌∙◌}
use Prim.Native.Nat.{◌*◌}
use native.Mathlib.Omega.{arith}
use lib.ListN.{length}
use Rattle.hash.specs.Open.{Opened, open_answer, opened_by, fed_by}
use Rattle.hash_theorems.proofs.Theorems.{open_known}
use Rattle.hmac_parts.specs.Keyed.{begun}
use Rattle.hmac_parts.proofs.Keyed.{opened_ok, fed_ok, fed_hash, fed_block}
use Rattle.hmac_parts.proofs.begin.Goals as goal

pub unwrap-hash-requires : goal.unwrap-hash-requires
unwrap-hash-requires c =
    opened_ok _ (ap (λ (o : Opened). o.refusal) (c.at.ensures ∙ open_known c.args.width c.requires.0))

pub unwrap-requires : goal.unwrap-requires
unwrap-requires c =
    let opened = ap opened_by (sym c.unwrap-hash.ensures) ∙ c.at.ensures in
    fed_ok _ _ (fed_block c.args.width c.requires.0 c.args.block.now c.requires.1 opened c.absorb.ensures).1

pub returns : goal.returns
returns c =
    let opened = ap opened_by (sym c.unwrap-hash.ensures) ∙ c.at.ensures in
    fed_hash _ c.absorb.result ∙ (fed_block c.args.width c.requires.0 c.args.block.now c.requires.1 opened c.absorb.ensures).0
