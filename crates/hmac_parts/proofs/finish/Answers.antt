-- The inner hash is taken, the outer one fed its digest and taken: 1 or 2, none and 2 compressions.
use mathlib.Core.Path.{◌≡◌, refl, sym, ap, ◌∙◌}
use Prim.Native.Nat.{ℕ}
use native.Mathlib.Omega.{arith}
use borrow.Author.Rules.{rules}
use lib.ListN.{length-take}
use Rattle.std.specs.Prelude.{Result}
use Rattle.simd.specs.Hash.{compressions}
use Rattle.refusals.specs.declared.Refusal.{Refusal}
use Rattle.hash.specs.Open.{Fed, family, used, taken_by, fed_by}
use Rattle.hash.proofs.Holding.{legal_width}
use Rattle.hash_theorems.proofs.Held.{Long}
use Rattle.hmac_parts.proofs.Keyed.{keyed_facts, taken_ok, fed_ok, fed_hash}
use Rattle.hmac_parts.proofs.Finishing.{short, one_or_two, digest_written, digest_fed, tag_written}
use Rattle.hmac_parts.proofs.finish.Goals as goal

pub unwrap-ended-requires : goal.unwrap-ended-requires
unwrap-ended-requires c =
    let k = keyed_facts c.args.inner c.args.outer c.requires.0 in
    let t = c.write_digest.ensures in
    taken_ok _ _ (digest_written c.args.inner c.args.outer k t.0 t.1 _ refl).0

pub slice_bounds-digest-end : goal.slice_bounds-digest-end
slice_bounds-digest-end c =
    let k = keyed_facts c.args.inner c.args.outer c.requires.0 in
    omega (arith, c.digest_bytes-length.ensures, (short c.args.inner.width (legal_width c.args.inner k.inner_legal)).room)

pub slice_bounds-absorb-end : goal.slice_bounds-absorb-end
slice_bounds-absorb-end c =
    let k = keyed_facts c.args.inner c.args.outer c.requires.0 in
    omega (arith, length-take c.digest_bytes-length.result c.write_digest.new.out, c.digest_bytes-length.ensures, (short c.args.inner.width (legal_width c.args.inner k.inner_legal)).room)

pub unwrap-fed-requires : goal.unwrap-fed-requires
unwrap-fed-requires c =
    let a = c.args in
    let inner = a.inner in
    let outer = a.outer in
    let k = keyed_facts inner outer c.requires.0 in
    let t = c.write_digest.ensures in
    let l = c.digest_bytes-length in
    let fed = digest_fed inner outer k l.result l.ensures (digest_written inner outer k t.0 t.1 l.result l.ensures).2 c.absorb.ensures in
    fed_ok _ _ (ap (λ (f : Fed). f.refusal) fed)

pub unwrap-taken-requires : goal.unwrap-taken-requires
unwrap-taken-requires c =
    let a = c.args in
    let inner = a.inner in
    let outer = a.outer in
    let k = keyed_facts inner outer c.requires.0 in
    let t = c.write_digest.ensures in
    let l = c.digest_bytes-length in
    let fed = digest_fed inner outer k l.result l.ensures (digest_written inner outer k t.0 t.1 l.result l.ensures).2 c.absorb.ensures in
    let long : Long outer = record { words = search rules; bytes = search rules } in
    let same = fed_hash _ c.absorb.result ∙ ap (λ (f : Fed). f.hash) fed in
    let u = c.write_digest-2.ensures in
    let last = tag_written inner outer k long a.out.now same c.requires.1 u.0 u.1 in
    taken_ok _ _ last.0

pub overflow_add-result : goal.overflow_add-result
overflow_add-result c =
    let a = c.args in
    let inner = a.inner in
    let outer = a.outer in
    let k = keyed_facts inner outer c.requires.0 in
    let t = c.write_digest.ensures in
    let l = c.digest_bytes-length in
    let fed = digest_fed inner outer k l.result l.ensures (digest_written inner outer k t.0 t.1 l.result l.ensures).2 c.absorb.ensures in
    let ended : c.unwrap-ended.result ≡ compressions (family inner) (used inner) =
    ap (λ (r : Result ℕ Refusal). (taken_by inner r).blocks) (sym c.unwrap-ended.ensures) ∙ (digest_written inner outer k t.0 t.1 l.result l.ensures).1 in
    let none : c.unwrap-fed.result ≡ 0 =
    ap (λ (r : Result ℕ Refusal). (fed_by c.absorb.new.self r).blocks) (sym c.unwrap-fed.ensures) ∙ ap (λ (f : Fed). f.blocks) fed in
    omega (arith, ended, none, one_or_two (family inner) inner.bits)

pub overflow_add-result-2 : goal.overflow_add-result-2
overflow_add-result-2 c =
    let a = c.args in
    let inner = a.inner in
    let outer = a.outer in
    let k = keyed_facts inner outer c.requires.0 in
    let t = c.write_digest.ensures in
    let l = c.digest_bytes-length in
    let fed = digest_fed inner outer k l.result l.ensures (digest_written inner outer k t.0 t.1 l.result l.ensures).2 c.absorb.ensures in
    let long : Long outer = record { words = search rules; bytes = search rules } in
    let same = fed_hash _ c.absorb.result ∙ ap (λ (f : Fed). f.hash) fed in
    let u = c.write_digest-2.ensures in
    let last = tag_written inner outer k long a.out.now same c.requires.1 u.0 u.1 in
    let ended : c.unwrap-ended.result ≡ compressions (family inner) (used inner) =
    ap (λ (r : Result ℕ Refusal). (taken_by inner r).blocks) (sym c.unwrap-ended.ensures) ∙ (digest_written inner outer k t.0 t.1 l.result l.ensures).1 in
    let none : c.unwrap-fed.result ≡ 0 =
    ap (λ (r : Result ℕ Refusal). (fed_by c.absorb.new.self r).blocks) (sym c.unwrap-fed.ensures) ∙ ap (λ (f : Fed). f.blocks) fed in
    let two : c.unwrap-taken.result ≡ 2 =
    ap (λ (r : Result ℕ Refusal). (taken_by c.absorb.new.self r).blocks) (sym c.unwrap-taken.ensures) ∙ last.1 in
    omega (arith, ended, none, two, one_or_two (family inner) inner.bits)

pub returns : goal.returns
returns c =
    let a = c.args in
    let inner = a.inner in
    let outer = a.outer in
    let k = keyed_facts inner outer c.requires.0 in
    let t = c.write_digest.ensures in
    let l = c.digest_bytes-length in
    let fed = digest_fed inner outer k l.result l.ensures (digest_written inner outer k t.0 t.1 l.result l.ensures).2 c.absorb.ensures in
    let long : Long outer = record { words = search rules; bytes = search rules } in
    let same = fed_hash _ c.absorb.result ∙ ap (λ (f : Fed). f.hash) fed in
    let u = c.write_digest-2.ensures in
    let last = tag_written inner outer k long a.out.now same c.requires.1 u.0 u.1 in
    let ended : c.unwrap-ended.result ≡ compressions (family inner) (used inner) =
    ap (λ (r : Result ℕ Refusal). (taken_by inner r).blocks) (sym c.unwrap-ended.ensures) ∙ (digest_written inner outer k t.0 t.1 l.result l.ensures).1 in
    let none : c.unwrap-fed.result ≡ 0 =
    ap (λ (r : Result ℕ Refusal). (fed_by c.absorb.new.self r).blocks) (sym c.unwrap-fed.ensures) ∙ ap (λ (f : Fed). f.blocks) fed in
    let two : c.unwrap-taken.result ≡ 2 =
    ap (λ (r : Result ℕ Refusal). (taken_by c.absorb.new.self r).blocks) (sym c.unwrap-taken.ensures) ∙ last.1 in
    (last.2, omega (arith, ended, none, two))
