-- Turn by turn, one number at a place that no turn before has.
use mathlib.Core.Path.{refl}
use Prim.Native.Nat.{ℕ, ◌+◌, ◌*◌, ◌≤◌, ◌<◌}
use native.Mathlib.Nat.{mul-le-mul_left}
use native.Mathlib.Omega.{arith}
use Rattle.laws.proofs.Stores.{filled_more}
use Rattle.radix_8.proofs.spread.Goals as goal

inside : (at gap j n : ℕ) → at + gap * 3 < n → j < 4 → at + gap * j < n
inside at gap j n fits turn =
    let most : gap * j ≤ gap * 3 = mul-le-mul_left gap (omega arith) in
    omega arith

pub loop-j-preserved : goal.loop-j-preserved
loop-j-preserved c =
    let a = c.args in
    let j = c.loop-j.j in
    filled_more c.loop-j.invariant (inside a.at a.gap j _ c.requires.0 (omega arith))
    (λ i below e.
    let apart : a.gap * (i + 1) ≤ a.gap * j = mul-le-mul_left a.gap (omega arith) in
    omega (arith, apart, c.requires.1))
    refl
