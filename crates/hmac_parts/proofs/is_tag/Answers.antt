-- The tag is written over the first of 64 bytes, and these are compared.
use mathlib.Core.Path.{ap, ◌∙◌}
use native.Mathlib.Omega.{arith}
use borrow.Author.Rules.{rules}
use lib.ListN.{length-take}
use Rattle.hash.proofs.Holding.{legal_width}
use Rattle.hash_theorems.proofs.Held.{Long}
use Rattle.pairs.specs.Lists.{equal}
use Rattle.hmac_parts.proofs.Keyed.{IsKeyed, keyed_facts}
use Rattle.hmac_parts.proofs.Finishing.{short, tag_front}
use Rattle.hmac_parts.proofs.is_tag.Goals as goal

pub finish-requires : goal.finish-requires
finish-requires c =
    let a = c.args in
    let k = keyed_facts a.inner a.outer c.requires in
    (c.requires, (short a.inner.width (legal_width a.inner k.inner_legal)).room)

pub slice_bounds-tag-end : goal.slice_bounds-tag-end
slice_bounds-tag-end c =
    let a = c.args in
    let k = keyed_facts a.inner a.outer c.requires in
    omega (arith, c.digest_bytes-length.ensures, (short a.inner.width (legal_width a.inner k.inner_legal)).room)

pub slice_bounds-same_bytes-end : goal.slice_bounds-same_bytes-end
slice_bounds-same_bytes-end c =
    let a = c.args in
    let k = keyed_facts a.inner a.outer c.requires in
    let l = c.digest_bytes-length in
    omega (arith, length-take l.result c.finish.new.out, l.ensures, (short a.inner.width (legal_width a.inner k.inner_legal)).room)

pub returns : goal.returns
returns c =
    let a = c.args in
    let k = keyed_facts a.inner a.outer c.requires in
    let l = c.digest_bytes-length in
    let long : Long a.outer = record { words = search rules; bytes = search rules } in
    c.same_bytes.ensures ∙ ap (equal a.given.now) (tag_front a.inner a.outer k long l.result l.ensures c.finish.ensures.0)
