-- The front of the buffer is the shifted part, and its blocks are compressed.
use mathlib.Core.Path.{sym, ap, ◌∙◌}
use mathlib.Core.List.{List}
use Prim.Native.Nat.{ℕ, ◌/◌}
use native.Mathlib.Omega.{arith}
use lib.ListN.{length, take, drop, length-take}
use lib.Seq.{length-take-le, take_at}
use Rattle.simd.specs.Basic.{family_of, state_words, block_bytes, table}
use Rattle.iteration.specs.Blocks.{absorbed}
use Rattle.laws.proofs.Table.{length_table}
use Rattle.bits.specs.Zero.{padded}
use Rattle.bits.specs.Shift.{carry_at, shifted}
use Rattle.shifted_blocks.proofs.absorb_part.Goals as goal

pub slice_bounds-shift-end-2 : goal.slice_bounds-shift-end-2
slice_bounds-shift-end-2 c =
    sym (length-take-le (length c.args.part.now) c.args.buffer.now c.requires.2)

pub shift-last-requires : goal.shift-last-requires
shift-last-requires c =
    (c.requires.1, omega (arith, length-take (length c.args.part.now) c.args.buffer.now))

pub slice_bounds-absorb-end-2 : goal.slice_bounds-absorb-end-2
slice_bounds-absorb-end-2 c =
    let shift = c.shift-last in
    let n = length c.args.part.now in
    let size = shift.auto.dst ∙ length-take-le n c.args.buffer.now c.requires.2 in
    sym (ap length (take_at shift.new.dst (drop n c.args.buffer.now) n size) ∙ size)

pub returns : goal.returns
returns c =
    let a = c.args in
    let shift = c.shift-last in
    let n = length a.part.now in
    let bytes = table n (shifted a.scale a.carry a.part.now) in
    let size = length-take-le n a.buffer.now c.requires.2 in
    let wrote = shift.ensures.0 ∙ ap (λ (n : ℕ). table n (shifted a.scale a.carry a.part.now)) size in
    let front = take_at shift.new.dst (drop n a.buffer.now) n (shift.auto.dst ∙ size) ∙ wrote in
    let f = family_of a.width in
    let words = take (state_words f) a.state.now in
    record {
      came =
          c.absorb.ensures
          ∙ ap (λ (l : List ℕ). padded 32 (absorbed f words l (length l / block_bytes f))) front
          ∙ ap (λ (c : ℕ). padded 32 (absorbed f words bytes (c / block_bytes f))) (length_table n (shifted a.scale a.carry a.part.now));
      carried = shift.ensures.1 ∙ ap (carry_at a.scale a.carry a.part.now) size;
    }
