-- Each turn stores one power and its product, at places of their own.
use mathlib.Core.List.{List}
use mathlib.Core.Path.{◌≡◌, ap, ◌∙◌}
use Prim.Native.Nat.{ℕ, ◌+◌, ◌*◌, ◌<◌}
use native.Mathlib.Omega.{arith}
use lib.ListN.{length, get_or}
use Rattle.simd.specs.Basic.{table}
use Rattle.simd.specs.Expansion.{power}
use Rattle.laws.proofs.Field.{power_lt}
use Rattle.laws.proofs.Stores.{stored_none, stored_more, fresh_runs}
use Rattle.laws.proofs.Table.{get_d_table}
use Rattle.transform_tables.proofs.Making.{begun_more}
use Rattle.transform_tables.proofs.row.Goals as goal

value : (p : List ℕ) (e : ℕ) → p ≡ table 256 (power 41) → e < 256 → get_or p e 0 ≡ power 41 e
value p e all below = ap (λ l. get_or l e 0) all ∙ get_d_table 256 (power 41) e 0 below

pub overflow_mul-t : goal.overflow_mul-t
overflow_mul-t c =
    let exponent = c.args.first + c.args.step * c.loop-k.k in
    omega
    (arith, value c.args.powers.now exponent c.requires.powers_value.0 (c.requires.by_index.0 c.loop-k.k (omega arith)).0, power_lt 41 exponent)

pub loop-k-init : goal.loop-k-init
loop-k-init c = stored_none

pub loop-k-preserved : goal.loop-k-preserved
loop-k-preserved c =
    let a = c.args in
    let exponent = a.first + a.step * c.loop-k.k in
    let power_is = value a.powers.now exponent c.requires.powers_value.0 (c.requires.by_index.0 c.loop-k.k (omega arith)).0 in
    let size : length a.t.now ≡ 512 = c.requires.by_index.1.size in
    stored_more c.loop-k.invariant (fresh_runs a.at (256 + a.at) a.n (omega arith) (omega arith) (omega arith)) (power_is, ap (λ v. 255 * v) power_is)

pub returns : goal.returns
returns c =
    let loop = c.loop-k in
    let end : loop.k ≡ c.args.n = omega arith in
    begun_more c.args.t.now loop.t c.args.at c.args.first c.args.step c.args.n (c.requires.powers_value.1, c.requires.powers_value.2) c.requires.by_index.0
    c.requires.by_index.1 (rw end at loop.invariant)
