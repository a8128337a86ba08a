-- The full blocks from the kept state on, and then the block that is left and the length block.
use mathlib.Core.Path.{◌≡◌, sym, ap, ◌∙◌}
use Prim.Native.Nat.{ℕ, ◌+◌, ◌*◌, ◌-◌, ◌/◌, ◌≤◌}
use native.Mathlib.Omega.{arith}
use lib.ListN.{length, take, drop, length-take, length-drop}
use Rattle.simd.specs.Basic.{Family, family_of, block_bytes, block_bits, state_words}
use Rattle.bits.proofs.Zeros.{length_padded}
use Rattle.tail.proofs.Absorbing.{length_prefix}
use Rattle.kept_counts.proofs.Counts.{full_fits}
use Rattle.kept_states.proofs.Counts.{full_within, skipped_within, part_bytes, kept_behind}
use Rattle.kept_states.proofs.Running.{states_run, final_run}
use Rattle.kept_states.proofs.run_from.Goals as goal

-- The bytes of the full blocks and of those that are skipped lie within the message.
placed : (f : Family) (n i : ℕ) {size full : ℕ} → size ≡ block_bytes f → full ≡ n / block_bits f → 16 * i ≤ n / block_bits f
    → (8 * (size * full) ≤ n) × (size * (16 * i) ≤ size * full) × (16 * i ≤ full)
placed f n i {full = full} sized counted begun =
    let started : 16 * i ≤ full = omega (arith, counted, begun) in
    (full_within n i f sized counted, skipped_within n i f sized counted started, started)

pub overflow_mul-skipped : goal.overflow_mul-skipped
overflow_mul-skipped c = omega (arith, c.requires.2, full_fits (family_of c.args.width) c.args.count)

pub overflow_mul-from : goal.overflow_mul-from
overflow_mul-from c =
    let p = placed (family_of c.args.width) c.args.count c.args.i c.block_bytes-size.ensures c.full_blocks-full.ensures c.requires.2 in
    omega (arith, p.0, p.1)

pub overflow_mul-middle : goal.overflow_mul-middle
overflow_mul-middle c =
    let p = placed (family_of c.args.width) c.args.count c.args.i c.block_bytes-size.ensures c.full_blocks-full.ensures c.requires.2 in
    omega (arith, p.0)

pub slice_bounds-keep-count : goal.slice_bounds-keep-count
slice_bounds-keep-count c =
    let p = placed (family_of c.args.width) c.args.count c.args.i c.block_bytes-size.ensures c.full_blocks-full.ensures c.requires.2 in
    omega (arith, p.1)

pub slice_bounds-keep-start : goal.slice_bounds-keep-start
slice_bounds-keep-start c =
    let p = placed (family_of c.args.width) c.args.count c.args.i c.block_bytes-size.ensures c.full_blocks-full.ensures c.requires.2 in
    omega (arith, p.1)

pub slice_bounds-keep-end : goal.slice_bounds-keep-end
slice_bounds-keep-end c =
    let p = placed (family_of c.args.width) c.args.count c.args.i c.block_bytes-size.ensures c.full_blocks-full.ensures c.requires.2 in
    omega (arith, p.0, c.requires.1)

pub overflow_sub-full : goal.overflow_sub-full
overflow_sub-full c = omega (arith, c.full_blocks-full.ensures, c.requires.2)

pub keep-requires : goal.keep-requires
keep-requires c =
    let a = c.args in
    let f = family_of a.width in
    let size = c.block_bytes-size in
    let full = c.full_blocks-full in
    let p = placed f a.count a.i size.ensures full.ensures c.requires.2 in
    let m = a.message.now in
    let from = size.result * (16 * a.i) in
    let states = c.requires.3 ∙ ap (λ (k : ℕ). block_bytes f * k) (sym (kept_behind a.count a.i f))
    ∙ ap (λ (k : ℕ). block_bytes f * ((k - 16 * a.i + 15) / 16)) (sym full.ensures) in (
      c.requires.0,
      omega (
        arith,
        length-take (size.result * full.result - from) (drop from m),
        length-drop from m,
        part_bytes a.count a.i f size.ensures full.ensures,
        p.0,
        p.1,
        c.requires.1,
      ),
      states,
    )

pub overflow_mul-left : goal.overflow_mul-left
overflow_mul-left c =
    let p = placed (family_of c.args.width) c.args.count c.args.i c.block_bytes-size.ensures c.full_blocks-full.ensures c.requires.2 in
    omega (arith, p.0)

pub overflow_sub-left : goal.overflow_sub-left
overflow_sub-left c =
    let p = placed (family_of c.args.width) c.args.count c.args.i c.block_bytes-size.ensures c.full_blocks-full.ensures c.requires.2 in
    omega (arith, p.0)

pub slice_bounds-rest-count : goal.slice_bounds-rest-count
slice_bounds-rest-count c =
    let p = placed (family_of c.args.width) c.args.count c.args.i c.block_bytes-size.ensures c.full_blocks-full.ensures c.requires.2 in
    omega (arith, p.0, c.requires.1)

pub slice_bounds-rest-start : goal.slice_bounds-rest-start
slice_bounds-rest-start c =
    let p = placed (family_of c.args.width) c.args.count c.args.i c.block_bytes-size.ensures c.full_blocks-full.ensures c.requires.2 in
    omega (arith, p.0, c.requires.1)

pub conclude-requires : goal.conclude-requires
conclude-requires c =
    let p = placed (family_of c.args.width) c.args.count c.args.i c.block_bytes-size.ensures c.full_blocks-full.ensures c.requires.2 in
    let m = c.args.message.now in
    let middle = c.block_bytes-size.result * c.full_blocks-full.result in (
      ap length c.keep.ensures.state_after ∙ length_padded 32 _,
      omega (arith, length-take (length m - middle) (drop middle m), length-drop middle m, p.0, c.requires.1),
    )

pub returns : goal.returns
returns c =
    let a = c.args in
    let f = family_of a.width in
    let words = take (state_words f) a.state.now in
    let sized = c.block_bytes-size.ensures in
    let counted = c.full_blocks-full.ensures in
    record {
      state_after =
          final_run f words a.message.now a.count a.i c.requires.1 c.requires.2 sized counted
          (length_prefix f a.state.now c.requires.0) c.keep.ensures.state_after c.conclude.ensures;
      states_after = states_run f words a.message.now a.count a.i c.requires.1 c.requires.2 sized counted c.keep.ensures.states_after;
    }
