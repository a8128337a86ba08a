-- The needed bytes are those of a digest.
use mathlib.Core.Bool.{cond}
use mathlib.Core.Path.{ap, ◌∙◌}
use Prim.Native.Nat.{ℕ}
use borrow.Author.Rules.{rules}
use lib.Dec.{leb}
use Rattle.hmac_parts.specs.Keyed.{keyed}
use Rattle.hmac_parts.proofs.tag_refusal.Goals as goal

pub returns : goal.returns
returns c =
    let a = c.args in
    c.output_refusal.ensures
    ∙ ap (λ (n : ℕ). cond (keyed a.inner.now a.outer.now) (cond (leb n a.room) 0 6) 5) c.digest_bytes.ensures
