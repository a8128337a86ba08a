-- Each turn places the eight values of one place more.
use Prim.Native.Nat.{◌≤◌}
use native.Mathlib.Omega.{arith}
use lib.ListN.{get_or}
use Rattle.transform_stages.proofs.Stages.{everywhere}
use Rattle.radix_8.proofs.Eight.{placed_more}
use Rattle.radix_8.proofs.begin.Goals as goal

pub loop-q-preserved : goal.loop-q-preserved
loop-q-preserved c = (omega arith, placed_more c.loop-q.q c.loop-q.invariant.1 c.place.ensures.placed c.place.ensures.by_index)

pub returns : goal.returns
returns c =
    let m = c.args.m in
    let y = c.loop-q.y in
    let all = c.loop-q.invariant.1 in record {
      level = record { value = λ k q hk hq. (all q (omega arith)).value k hk };
      within = everywhere (λ p. (2570 ≤ get_or y p 0) × (get_or y p 0 ≤ 45000)) 8 m (λ k q hk hq. (all q (omega arith)).within k hk);
    }
