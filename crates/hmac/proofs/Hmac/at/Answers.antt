-- Refused, there is no keyed hash; else each of its two begins with K0 xor its pad.
use mathlib.Core.List.{List}
use mathlib.Core.Path.{◌≡◌}
use native.Mathlib.Omega.{arith}
use borrow.Author.Rules.{rules}
use lib.ListN.{length, take, length-take}
use Prim.Native.Nat.{ℕ, ◌-◌, ◌≤◌}
use Rattle.std.proofs.lemmas.Result.{err_from_is_err_and}
use Rattle.simd.specs.Basic.{family_of}
use Rattle.tail.proofs.Sizes.{bytes_within}
use Rattle.hmac_key.specs.Hmac.{ipad, opad}
use Rattle.hmac.proofs.Answers.{Accepted, open_refused, open_accepted, begun_with, open_answered}
use Rattle.hmac.proofs.Hmac.at.Goals as goal

pub returns-in_err-key_refusal : goal.returns-in_err-key_refusal
returns-in_err-key_refusal c =
    let a = c.args in
    let e = c.in_err-key_refusal in
    let p = err_from_is_err_and c.from_residual.result c.from_residual.ensures.1 in
    rw (p.1, p.2) (open_refused a.width a.key.now _ e.ensures)

pub key_block-block-requires : goal.key_block-block-requires
key_block-block-requires c =
    let good = open_accepted c.args.width c.args.key.now c.in_ok-key_refusal.ensures in
    (good.known, good.short)

-- A part of a block is as long as a block may be.
front : (n : ℕ) (l : List ℕ) → n ≤ 128 → length (take n l) ≤ 128
front n l short = omega (arith, length-take n l)

pub slice_bounds-begin-end : goal.slice_bounds-begin-end
slice_bounds-begin-end c =
    let long : length c.mask-inner_block.result ≡ 128 = search rules in
    omega (arith, length-take c.block_bytes-size.result c.mask-inner_block.result, long, c.block_bytes-size.ensures, bytes_within (family_of c.args.width))

pub begin-inner-requires : goal.begin-inner-requires
begin-inner-requires c =
    let a = c.args in
    let known = (open_accepted a.width a.key.now c.in_ok-key_refusal.ensures).known in
    let small : c.block_bytes-size.result ≤ 128 = omega (arith, c.block_bytes-size.ensures, bytes_within (family_of a.width)) in
    (known, front c.block_bytes-size.result c.mask-inner_block.result small)

pub slice_bounds-begin-end-2 : goal.slice_bounds-begin-end-2
slice_bounds-begin-end-2 c =
    let long : length c.mask-outer_block.result ≡ 128 = search rules in
    omega (arith, length-take c.block_bytes-size.result c.mask-outer_block.result, long, c.block_bytes-size.ensures, bytes_within (family_of c.args.width))

pub begin-outer-requires : goal.begin-outer-requires
begin-outer-requires c =
    let a = c.args in
    let known = (open_accepted a.width a.key.now c.in_ok-key_refusal.ensures).known in
    let small : c.block_bytes-size.result ≤ 128 = omega (arith, c.block_bytes-size.ensures, bytes_within (family_of a.width)) in
    (known, front c.block_bytes-size.result c.mask-outer_block.result small)

pub returns : goal.returns
returns c =
    let a = c.args in
    let block = c.key_block-block.ensures in
    open_answered a.width a.key.now c.in_ok-key_refusal.ensures
    (begun_with a.width a.key.now ipad c.block_bytes-size.result block c.mask-inner_block.ensures c.block_bytes-size.ensures c.begin-inner.ensures)
    (begun_with a.width a.key.now opad c.block_bytes-size.result block c.mask-outer_block.ensures c.block_bytes-size.ensures c.begin-outer.ensures)
