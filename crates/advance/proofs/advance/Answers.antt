-- All bits of the source are joined, and the tail is trimmed behind the last one that counts. Where no block is full, all of these are in the tail.
use mathlib.Core.Path.{sym, ◌∙◌}
use Prim.Native.Nat.{◌+◌}
use native.Mathlib.Omega.{arith}
use Rattle.simd.specs.Basic.{family_of}
use Rattle.advance.proofs.Advancing.{block_small}
use Rattle.advance.proofs.Ending.{none_full, numbered, trimmed, cut_within, cut_rest}
use Rattle.advance.proofs.advance.Goals as goal

pub overflow_add-used : goal.overflow_add-used
overflow_add-used c =
    omega (arith, c.requires.below, c.requires.short, block_small (family_of c.args.width))

pub trim-requires : goal.trim-requires
trim-requires c =
    let left = none_full (family_of c.args.width) (c.args.used + c.args.count) (sym c.join-blocks.ensures.number ∙ c.if-blocks-eq0.true) in
    (cut_within c.requires c.join-blocks.ensures _ left, cut_rest c.requires c.join-blocks.ensures _ left)

pub returns-then-blocks-eq0 : goal.returns-then-blocks-eq0
returns-then-blocks-eq0 c =
    numbered c.if-blocks-eq0.true
    (trimmed c.requires c.join-blocks.ensures _ (none_full (family_of c.args.width) (c.args.used + c.args.count) (sym c.join-blocks.ensures.number ∙ c.if-blocks-eq0.true)) c.trim.ensures.0 c.trim.ensures.1)

-- Some are.
pub overflow_add-used-2 : goal.overflow_add-used-2
overflow_add-used-2 c =
    omega (arith, c.requires.below, c.requires.short, block_small (family_of c.args.width))

pub trim-requires-2 : goal.trim-requires-2
trim-requires-2 c =
    let left = c.used_bits.ensures in
    (cut_within c.requires c.join-blocks.ensures _ left, cut_rest c.requires c.join-blocks.ensures _ left)

pub returns : goal.returns
returns c =
    trimmed c.requires c.join-blocks.ensures _ c.used_bits.ensures c.trim-2.ensures.0 c.trim-2.ensures.1
