-- The bytes of the number are put over zeros; it has eight, and past them its bytes are 0.
use mathlib.Core.Path.{◌≡◌, sym, ap, ◌∙◌}
use Prim.Native.Nat.{ℕ, ◌/◌, ◌%◌, ◌^◌, ◌<◌, ◌≤◌}
use native.Mathlib.Nat.{div-eq_of_lt, pow-le-pow_right}
use native.Mathlib.Omega.{arith}
use lib.ListN.{length, get_or, length-take, get_or-replicate}
use lib.Seq.{get_or-take}
use Rattle.laws.proofs.Table.{get_d_table}
use Rattle.bits.proofs.Bytes.{low_bytes}
use Rattle.bits.proofs.Parts.{over}
use Rattle.little_endian.specs.Numbers.{little_endian}
use Rattle.little_endian.proofs.write_number.Goals as goal

-- After eight bytes nothing is left.
past : (n j : ℕ) → n < 256 ^ 8 → 8 ≤ j → 0 ≡ n / 256 ^ j % 256
past n j fits from =
    let power : 256 ^ 8 ≤ 256 ^ j = pow-le-pow_right {n = 256} (omega arith) from in
    sym (ap (λ q. q % 256) (div-eq_of_lt {n = n} {m = 256 ^ j} (omega arith)))

pub returns : goal.returns
unfolding little_endian
returns c =
    let a = c.args in
    let count = c.min-count.result in
    let digit = λ (j : ℕ). a.number / 256 ^ j % 256 in
    let bytes = c.to_le_bytes-bytes.ensures ∙ low_bytes 8 a.number in
    let zeros = c.fill.ensures.after (λ y same. same) in
    over c.copy_from_slice.new.self c.fill.new.self (length a.out.now) count digit (omega arith) (omega arith)
    (omega (arith, length-take count c.fill.new.self))
    (λ i below.
    ap (λ l. get_or l i 0) c.copy_from_slice.ensures.after
    ∙ get_or-take count c.to_le_bytes-bytes.result i 0 below
    ∙ ap (λ l. get_or l i 0) bytes
    ∙ get_d_table 8 digit i 0 (omega arith))
    (λ i after below.
    ap (λ l. get_or l i 0) zeros ∙ get_or-replicate (length a.out.now) i 0 0 below ∙ past a.number i (omega (arith, c.ranges.number.fits)) (omega arith))
