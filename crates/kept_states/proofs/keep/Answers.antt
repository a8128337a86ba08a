-- In a turn blocks and states lie within what was lent.
use mathlib.Core.Path.{◌≡◌, refl, ap, ◌∙◌}
use Prim.Native.Nat.{ℕ, min, ◌+◌, ◌*◌, ◌-◌, ◌/◌, ◌<◌, ◌≤◌}
use native.Mathlib.Omega.{arith}
use lib.ListN.{length, take}
use Rattle.std.specs.Int.{div_ceil}
use Rattle.simd.specs.Basic.{Family, family_of, block_bytes, state_words}
use Rattle.bits.proofs.Parts.{part_size}
use Rattle.bits.proofs.Zeros.{length_padded}
use Rattle.tail.proofs.Absorbing.{length_prefix}
use Rattle.tail.proofs.Sizes.{bytes_within}
use Rattle.kept_states.proofs.Counts.{few_blocks, blocks_within, state_within, whole_words}
use Rattle.kept_states.proofs.Keeping.{kept_none, kept_next, kept_all}
use Rattle.kept_states.proofs.keep.Goals as goal

started : (full : ℕ) {k turns : ℕ} → turns ≡ div_ceil full 16 → k < turns → 16 * k < full
started full counted turn = omega arith

state_room : (f : Family) (full : ℕ) {size k turns room : ℕ} → turns ≡ div_ceil full 16 → k < turns → size ≡ block_bytes f
    → room ≡ block_bytes f * ((full + 15) / 16) → size * k + size ≤ room
state_room f full {k = k} counted turn sized lent = omega (arith, state_within f sized k full (started full counted turn), lent)

blocks_room : (f : Family) (full : ℕ) {size k turns room n : ℕ} → turns ≡ div_ceil full 16 → k < turns → size ≡ block_bytes f
    → room ≡ block_bytes f * full → n ≡ min (full - 16 * k) 16 → size * (16 * k) + size * n ≤ room
blocks_room f full {k = k} {n = n} counted turn sized lent stretch =
    let begun = started full counted turn in
    omega (arith, blocks_within f sized (16 * k) n full (omega (arith, stretch, begun)), lent)

pub loop-k-init : goal.loop-k-init
loop-k-init c =
    kept_none (family_of c.args.width) (take (state_words (family_of c.args.width)) c.args.state.now) c.args.blocks.now c.args.full
    c.requires.0 c.requires.2

pub overflow_mul-first : goal.overflow_mul-first
overflow_mul-first c =
    omega (arith, started c.args.full c.div_ceil-k-end.ensures c.loop-k-test.true, few_blocks (family_of c.args.width) c.args.full, c.requires.1)

pub overflow_mul-at : goal.overflow_mul-at
overflow_mul-at c =
    omega (arith, state_room (family_of c.args.width) c.args.full c.div_ceil-k-end.ensures c.loop-k-test.true c.block_bytes-size.ensures c.loop-k.invariant.size)

pub overflow_add-at : goal.overflow_add-at
overflow_add-at c =
    omega (arith, state_room (family_of c.args.width) c.args.full c.div_ceil-k-end.ensures c.loop-k-test.true c.block_bytes-size.ensures c.loop-k.invariant.size)

pub slice_bounds-write_words-end : goal.slice_bounds-write_words-end
slice_bounds-write_words-end c =
    omega (arith, state_room (family_of c.args.width) c.args.full c.div_ceil-k-end.ensures c.loop-k-test.true c.block_bytes-size.ensures c.loop-k.invariant.size)

pub write_words-requires : goal.write_words-requires
write_words-requires c =
    let f = family_of c.args.width in
    let size = c.block_bytes-size in
    let room = state_room f c.args.full c.div_ceil-k-end.ensures c.loop-k-test.true size.ensures c.loop-k.invariant.size in
    let part = part_size (size.result * c.loop-k.k) size.result c.loop-k.states room in
    (omega (arith, part, size.ensures, bytes_within f), rw part (rw size.ensures (whole_words f)))

pub overflow_mul-from : goal.overflow_mul-from
overflow_mul-from c =
    let room = blocks_room (family_of c.args.width) c.args.full c.div_ceil-k-end.ensures c.loop-k-test.true c.block_bytes-size.ensures c.requires.1 refl in
    omega (arith, room)

pub overflow_sub-full : goal.overflow_sub-full
overflow_sub-full c = omega (arith, started c.args.full c.div_ceil-k-end.ensures c.loop-k-test.true)

pub overflow_mul-size : goal.overflow_mul-size
overflow_mul-size c =
    omega (arith, blocks_room (family_of c.args.width) c.args.full c.div_ceil-k-end.ensures c.loop-k-test.true c.block_bytes-size.ensures c.requires.1 c.min-count.ensures)

pub overflow_add-from : goal.overflow_add-from
overflow_add-from c =
    omega (arith, blocks_room (family_of c.args.width) c.args.full c.div_ceil-k-end.ensures c.loop-k-test.true c.block_bytes-size.ensures c.requires.1 c.min-count.ensures)

pub slice_bounds-absorb-end : goal.slice_bounds-absorb-end
slice_bounds-absorb-end c =
    omega (arith, blocks_room (family_of c.args.width) c.args.full c.div_ceil-k-end.ensures c.loop-k-test.true c.block_bytes-size.ensures c.requires.1 c.min-count.ensures)

pub absorb-requires : goal.absorb-requires
absorb-requires c = ap length c.loop-k.invariant.reached ∙ length_padded 32 _

pub loop-k-preserved : goal.loop-k-preserved
loop-k-preserved c =
    let f = family_of c.args.width in
    let words = take (state_words f) c.args.state.now in
    kept_next f words c.args.blocks.now c.args.full (length_prefix f c.args.state.now c.requires.0)
    (λ i. (c.type_inv.blocks i).fits) c.requires.1 (started c.args.full c.div_ceil-k-end.ensures c.loop-k-test.true) c.loop-k.invariant
    c.block_bytes-size.ensures c.min-count.ensures c.write_words.ensures c.absorb.ensures

pub returns : goal.returns
returns c =
    let end : c.args.full ≤ 16 * c.loop-k.k = omega (arith, c.loop-k-test.false, c.div_ceil-k-end.ensures) in
    let both =
    kept_all (family_of c.args.width) (take (state_words (family_of c.args.width)) c.args.state.now) c.args.blocks.now c.args.full
    c.loop-k.invariant end in
    record { state_after = both.0; states_after = both.1 }
