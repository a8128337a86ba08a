-- The part is written behind the tail's bytes, and together they are one block.
use mathlib.Core.Bool.{false}
use mathlib.Core.List.{List, ◌++◌}
use mathlib.Core.Path.{ap, ◌∙◌}
use Prim.Native.Nat.{ℕ, ◌+◌}
use native.Mathlib.Omega.{arith}
use lib.ListN.{length, get_or, take}
use Rattle.simd.specs.Basic.{family_of, state_words, table}
use Rattle.simd.specs.Steps.{compression}
use Rattle.bits.specs.Zero.{padded}
use Rattle.bits.specs.Shift.{carry_at, shifted}
use Rattle.bits.proofs.Parts.{part_size}
use Rattle.shifted_blocks.proofs.Running.{shifted_bytes, joined_bytes, completed}
use Rattle.shifted_blocks.proofs.complete_block.Goals as goal

pub returns : goal.returns
returns c =
    let a = c.args in
    let f = family_of a.width in
    let words = take (state_words f) a.state.now in
    let shift = c.shift-last in
    let n = length a.part.now in
    let size = part_size a.at n a.tail.now c.requires.3 in
    let wrote = shift.ensures.0 ∙ ap (λ (c : ℕ). table c (shifted a.scale a.carry a.part.now)) size in (
      c.absorb.ensures
          ∙ ap (padded 32)
          (completed f words a.tail.now shift.new.dst a.at (a.at + n) (omega arith) c.requires.3
          (shift.auto.dst ∙ size ∙ omega arith) c.requires.2
          (λ i. joined_bytes a.tail.now shift.new.dst a.at i (λ j. (c.slice_known-1.given j).fits)
          (λ j. omega (arith, ap (λ (l : List ℕ). get_or l j 0) wrote, shifted_bytes n a.scale a.carry a.part.now j)))
          ∙ ap (λ (l : List ℕ). compression f false words (take a.at a.tail.now ++ l)) wrote),
      shift.ensures.1 ∙ ap (carry_at a.scale a.carry a.part.now) size,
    )
