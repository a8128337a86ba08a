-- Bits that are left behind the full blocks take one more.
use mathlib.Core.Path.{sym, ap, ◌∙◌}
use Prim.Native.Nat.{ℕ, ◌+◌}
use native.Mathlib.Omega.{arith}
use Rattle.simd.specs.Basic.{family_of}
use Rattle.kept_counts.proofs.Counts.{full_fits, none_left, some_left}
use Rattle.kept_counts.proofs.message_blocks.Goals as goal

pub overflow_add-result : goal.overflow_add-result
overflow_add-result c =
    let a = c.args in
    omega (arith, c.full_blocks-full.ensures, full_fits (family_of a.width) a.count)

pub returns-then-used_bits-eq0 : goal.returns-then-used_bits-eq0
returns-then-used_bits-eq0 c =
    let a = c.args in
    c.full_blocks-full.ensures ∙ none_left (family_of a.width) a.count (sym c.used_bits.ensures ∙ c.if-used_bits-eq0.true)

pub returns-else-used_bits-eq0 : goal.returns-else-used_bits-eq0
returns-else-used_bits-eq0 c =
    let a = c.args in
    ap (λ (n : ℕ). n + 1) c.full_blocks-full.ensures
    ∙ some_left (family_of a.width) a.count (λ none. c.if-used_bits-eq0.false (c.used_bits.ensures ∙ none))
