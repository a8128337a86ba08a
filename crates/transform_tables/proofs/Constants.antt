-- The table of powers: one test over the whole table, and the law that makes it a rule at each entry.
use mathlib.Core.Bool.{Bool}
use mathlib.Core.List.{List}
use mathlib.Core.Path.{◌≡◌, sym, ap, ◌∙◌}
use Prim.Native.Nat.{ℕ, zero, suc, ◌*◌, ◌%◌, ◌<◌}
use native.Mathlib.Omega.{arith}
use lib.Dec.{T, eqb, eqb→eq}
use lib.ListN.{length, get_or}
use Rattle.simd.specs.Basic.{table}
use Rattle.simd.specs.Expansion.{power}
use Rattle.laws.proofs.Table.{every, every_at, table_of}
use Rattle.laws.proofs.Field.{power_zero, power_suc}

-- The successor rule of the powers: entry k + 1 is 41 times entry k, and past the last one 1 comes again.
abbrev pub follows : List ℕ → ℕ → ℕ → Bool
follows l k x = eqb (get_or l (suc k) 1) (41 * x % 257)

module _ (l : List ℕ) (first : get_or l 0 1 ≡ 1) (test : T (every (follows l) 0 l)) where
  power_at : (k : ℕ) → k < length l → get_or l k 1 ≡ power 41 k
  power_at zero h = first ∙ sym (power_zero 41)
  power_at (suc k) h =
      eqb→eq (get_or l (suc k) 1) (41 * get_or l k 1 % 257) (every_at (follows l) 1 l test k (omega arith))
      ∙ ap (λ v. 41 * v % 257) (power_at k (omega arith))
      ∙ sym (power_suc 41 k)

  pub powers_right : length l ≡ 256 → l ≡ table 256 (power 41)
  powers_right e = table_of 1 256 (power 41) l e (λ k h. power_at k (omega arith))
