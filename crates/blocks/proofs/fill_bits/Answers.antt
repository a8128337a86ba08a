-- The bytes that hold the bits are copied, with zeros behind; where the last one is not full, the copy is cut at the last bit.
use mathlib.Core.List.{List}
use mathlib.Core.Path.{◌≡◌, ap, ◌∙◌}
use Prim.Native.Nat.{ℕ, ◌+◌, ◌*◌, ◌≤◌}
use native.Mathlib.Omega.{arith}
use lib.ListN.{length, get_or, drop, length-drop}
use lib.Seq.{get_or-drop}
use Rattle.simd.specs.Basic.{table}
use Rattle.laws.proofs.Table.{length_table}
use Rattle.blocks.proofs.Front.{rest, whole, cut}
use Rattle.blocks.proofs.fill_bits.Goals as goal

copied : (size : ℕ) (part front block : List ℕ) → block ≡ table size (λ j. get_or part (0 + j) 0) → part ≡ front
    → block ≡ table size (λ j. get_or front (0 + j) 0)
copied size part front block filled is = filled ∙ ap (λ l. table size (λ j. get_or l (0 + j) 0)) is

within : (at count : ℕ) (bytes : List ℕ) → 8 * at + count ≤ 8 * length bytes → count ≤ 8 * length (drop at bytes)
within at count bytes fits = omega (arith, length-drop at bytes)

pub cut-requires : goal.cut-requires
cut-requires c =
    let a = c.args in
    let u = c.bytes_of_bits-used in
    let size = length a.block.now in
    let same = copied size _ _ _ c.fill.ensures c.part.ensures.0 in
    let long = ap length same ∙ length_table size _ in (
      omega (arith, long, c.requires.1, c.if-count-ne0.true),
      rest (drop a.at a.bytes.now) a.count u.result size u.ensures (within a.at a.count a.bytes.now c.requires.0) _ same,
    )

pub returns-then-count-ne0 : goal.returns-then-count-ne0
returns-then-count-ne0 c =
    let a = c.args in
    let u = c.bytes_of_bits-used in
    let size = length a.block.now in
    cut (drop a.at a.bytes.now) a.count u.result size u.ensures (within a.at a.count a.bytes.now c.requires.0) _
    (copied size _ _ _ c.fill.ensures c.part.ensures.0) c.cut.ensures

pub returns-else-count-ne0 : goal.returns-else-count-ne0
returns-else-count-ne0 c =
    let a = c.args in
    let u = c.bytes_of_bits-used in
    let size = length a.block.now in
    whole (drop a.at a.bytes.now) a.count u.result size u.ensures (within a.at a.count a.bytes.now c.requires.0) _
    (copied size _ _ _ c.fill.ensures c.part.ensures.0) c.if-count-ne0.false
    (λ j. omega (arith, get_or-drop a.at a.bytes.now j 0, (c.type_inv.bytes (a.at + j)).fits))
