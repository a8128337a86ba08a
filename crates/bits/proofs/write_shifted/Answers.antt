-- The shifted source is put into the middle of the buffer, and the carry behind it where the buffer goes on.
use mathlib.Core.Path.{ap, ◌∙◌}
use Prim.Native.Nat.{ℕ}
use lib.ListN.{length}
use Rattle.simd.specs.Basic.{table}
use Rattle.bits.specs.Shift.{carry_at, shifted}
use Rattle.bits.proofs.Parts.{part_size}
use Rattle.bits.proofs.Stream.{with_shifted_full, with_shifted_set}
use Rattle.bits.proofs.write_shifted.Goals as goal

pub returns-then-end-whole : goal.returns-then-end-whole
returns-then-end-whole c =
    let a = c.args in
    let shift = c.shift-last in
    let size = part_size a.at (length a.src.now) a.buffer.now c.requires.1 in
    let wrote = shift.ensures.0 ∙ ap (λ (n : ℕ). table n (shifted a.scale a.carry a.src.now)) size in
    let carried = shift.ensures.1 ∙ ap (carry_at a.scale a.carry a.src.now) size in
    with_shifted_set a.buffer.now a.at a.scale a.carry a.src.now shift.new.dst c.requires.1 c.ranges.carry.fits wrote
    shift.result carried c.if-end-whole.true

pub returns-else-end-whole : goal.returns-else-end-whole
returns-else-end-whole c =
    let a = c.args in
    let shift = c.shift-last in
    let size = part_size a.at (length a.src.now) a.buffer.now c.requires.1 in
    let wrote = shift.ensures.0 ∙ ap (λ (n : ℕ). table n (shifted a.scale a.carry a.src.now)) size in
    with_shifted_full a.buffer.now a.at a.scale a.carry a.src.now shift.new.dst c.requires.1 c.ranges.carry.fits wrote
    c.if-end-whole.false
