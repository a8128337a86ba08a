-- The first `whole` bytes are compressed, and the rest is written over a blank tail behind the carry that they leave.
use mathlib.Core.List.{List}
use mathlib.Core.Path.{ap, ◌∙◌}
use Prim.Native.Nat.{ℕ, ◌/◌, ◌%◌}
use native.Mathlib.Nat.{sub-zero}
use lib.ListN.{length, take, drop}
use lib.Seq.{length-take-le}
use Rattle.simd.specs.Basic.{family_of, block_bytes, state_words, table}
use Rattle.iteration.specs.Blocks.{absorbed}
use Rattle.laws.proofs.Table.{length_table}
use Rattle.bits.specs.Zero.{padded}
use Rattle.bits.specs.Shift.{carry_at, shifted, with_shifted}
use Rattle.bits.proofs.Filling.{zeros}
use Rattle.bits.proofs.Parts.{front_size, back}
use Rattle.shifted_blocks.proofs.Running.{shifted_take, carry_take}
use Rattle.shifted_blocks.proofs.absorb_whole_blocks.Goals as goal

-- The places after each call, from the next one.
pub absorb_shifted-last-requires : goal.absorb_shifted-last-requires
absorb_shifted-last-requires c = (
  c.requires.0,
  c.requires.1,
  ap (λ (n : ℕ). n % block_bytes (family_of c.args.width)) (front_size c.args.whole c.args.src.now c.requires.3) ∙ c.requires.2,
)

pub returns : goal.returns
returns c =
    let a = c.args in
    let f = family_of a.width in
    let src = a.src.now in
    let words = take (state_words f) a.state.now in
    let first = c.absorb_shifted-last in
    let zeros = c.fill.ensures.after (λ y same. same) ∙ zeros (length a.tail.now) in
    let front = ap (λ (n : ℕ). take n src) (sub-zero a.whole) in
    let carried =
    first.ensures.carried
    ∙ ap (λ (l : List ℕ). carry_at a.scale a.carry l (length l)) front
    ∙ carry_take a.scale a.carry src a.whole c.requires.3 in
    let rest = back a.whole src in (
      first.ensures.came
          ∙ ap (λ (l : List ℕ). padded 32 (absorbed f words (table (length l) (shifted a.scale a.carry l)) (length l / block_bytes f))) front
          ∙ (λ i. padded 32 (absorbed f words (shifted_take a.scale a.carry src a.whole c.requires.3 i)
          (length-take-le a.whole src c.requires.3 i / block_bytes f))),
      c.write_shifted.ensures
          ∙ (λ i. table (length (zeros i)) (with_shifted (zeros i) 0 a.scale (carried i) (rest i)))
          ∙ ap (λ (n : ℕ). table n (with_shifted (table (length a.tail.now) (λ _. 0)) 0 a.scale
          (carry_at a.scale a.carry src a.whole) (drop a.whole src)))
          (length_table (length a.tail.now) (λ _. 0)),
    )
