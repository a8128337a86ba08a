-- With no full block the bits go into the tail; from an empty tail whole blocks are compressed from the source; else the tail's block first.
use mathlib.Core.List.{List}
use mathlib.Core.Path.{◌≡◌, sym}
use Prim.Native.Nat.{ℕ, ◌+◌, ◌-◌, ◌/◌, ◌%◌, ◌^◌, ◌<◌}
use native.Mathlib.Omega.{arith}
use lib.ListN.{get_or}
use Rattle.simd.specs.Basic.{family_of, block_bits}
use Rattle.advance.specs.Joined.{Ready}
use Rattle.advance.proofs.Advancing.{Joining, block_small, few, room_left, whole_bytes, state_kept, none_complete, from_start, from_tail, completing}
use Rattle.advance.proofs.join.Goals as goal

joining : {width used count scale blocks : ℕ} {state tail src : List ℕ} → Ready width used state tail src count
    → ((i : ℕ) → get_or tail i 0 < 256) → ((i : ℕ) → get_or src i 0 < 256) → scale ≡ 2 ^ (8 - used % 8)
    → blocks ≡ (used + count) / block_bits (family_of width) → Joining width used state tail src count scale blocks
joining ready tail_fits src_fits scaled counted =
    record { ready = ready; tail_fits = tail_fits; src_fits = src_fits; scaled = scaled; counted = counted }

pub overflow_add-used : goal.overflow_add-used
overflow_add-used c =
    omega (arith, c.requires.below, c.requires.short, block_small (family_of c.args.width))

pub bounds-tail-at : goal.bounds-tail-at
bounds-tail-at c =
    omega (arith, c.requires.below, c.requires.bytes, block_small (family_of c.args.width))

pub write_shifted-requires : goal.write_shifted-requires
write_shifted-requires c =
    (c.scale_of-scale.ensures.1, room_left (joining c.requires (λ i. (c.slice_known-1.given i).fits) (λ i. (c.type_inv.src i).fits) c.scale_of-scale.ensures.0 c.full_blocks-blocks.ensures) c.if-blocks-eq0.true)

pub returns-then-blocks-eq0 : goal.returns-then-blocks-eq0
returns-then-blocks-eq0 c =
    none_complete (joining c.requires (λ i. (c.slice_known-1.given i).fits) (λ i. (c.type_inv.src i).fits) c.scale_of-scale.ensures.0 c.full_blocks-blocks.ensures) c.if-blocks-eq0.true _
    c.write_shifted.ensures

pub bytes_of_blocks-whole-requires : goal.bytes_of_blocks-whole-requires
bytes_of_blocks-whole-requires c = few (joining c.requires (λ i. (c.slice_known-1.given i).fits) (λ i. (c.type_inv.src i).fits) c.scale_of-scale.ensures.0 c.full_blocks-blocks.ensures)

pub absorb_whole_blocks-requires : goal.absorb_whole_blocks-requires
absorb_whole_blocks-requires c =
    let x = (joining c.requires (λ i. (c.slice_known-1.given i).fits) (λ i. (c.type_inv.src i).fits) c.scale_of-scale.ensures.0 c.full_blocks-blocks.ensures) in
    let facts = whole_bytes x c.bytes_of_blocks-whole.result c.bytes_of_blocks-whole.ensures in (
      sym (state_kept x),
      c.scale_of-scale.ensures.1,
      facts.0,
      omega (arith, facts.1, c.if-used-eq0.true),
      omega (arith, facts.2, c.if-used-eq0.true),
    )

pub returns-then-used-eq0 : goal.returns-then-used-eq0
returns-then-used-eq0 c =
    let done = c.absorb_whole_blocks in
    from_start (joining c.requires (λ i. (c.slice_known-1.given i).fits) (λ i. (c.type_inv.src i).fits) c.scale_of-scale.ensures.0 c.full_blocks-blocks.ensures) c.if-used-eq0.true c.bytes_of_blocks-whole.result
    c.bytes_of_blocks-whole.ensures _ _ done.ensures.0 done.ensures.1

pub complete_and_absorb-requires : goal.complete_and_absorb-requires
complete_and_absorb-requires c =
    completing (joining c.requires (λ i. (c.slice_known-1.given i).fits) (λ i. (c.type_inv.src i).fits) c.scale_of-scale.ensures.0 c.full_blocks-blocks.ensures) c.block_bytes-size.result c.bytes_of_blocks-whole.result c.scale_of-scale.ensures.1
    c.block_bytes-size.ensures c.bytes_of_blocks-whole.ensures (omega (arith, c.if-blocks-eq0.false))

pub returns : goal.returns
returns c =
    let done = c.complete_and_absorb in
    from_tail (joining c.requires (λ i. (c.slice_known-1.given i).fits) (λ i. (c.type_inv.src i).fits) c.scale_of-scale.ensures.0 c.full_blocks-blocks.ensures) c.block_bytes-size.result c.bytes_of_blocks-whole.result c.block_bytes-size.ensures
    c.bytes_of_blocks-whole.ensures (omega (arith, c.if-blocks-eq0.false)) _ _ done.ensures.0 done.ensures.1
