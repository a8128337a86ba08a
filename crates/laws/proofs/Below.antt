-- A test over all numbers below a bound.
use mathlib.Core.Bool.{Bool, true, false, ◌&&◌}
use mathlib.Core.Logic.{inl, inr}
use mathlib.Core.Path.{sym, subst}
use Prim.Native.Nat.{ℕ, zero, suc, ◌<◌}
use native.Mathlib.Nat.{le_of_suc-le-suc, not-suc-le-zero, eq-or-lt_of_le}
use lib.Dec.{T}

-- A rule of the numbers below n, tested at all of them by one computation.
abbrev pub below : ℕ → (ℕ → Bool) → Bool
below zero p = true
below (suc n) p = p n && below n p

both : (a b : Bool) → T (a && b) → T a × T b
both true b t = (tt, t)
both false b t = absurd t

pub below_at : (n : ℕ) (p : ℕ → Bool) → T (below n p) → (i : ℕ) → i < n → T (p i)
below_at zero p t i h = absurd (not-suc-le-zero h)
below_at (suc n) p t i h =
    let b = both (p n) (below n p) t in
    elim (eq-or-lt_of_le (le_of_suc-le-suc h)) [ inl e ↦ subst (λ k. T (p k)) (sym e) b.0 | inr l ↦ below_at n p b.1 i l ]
