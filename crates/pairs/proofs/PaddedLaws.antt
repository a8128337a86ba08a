-- States and blocks with zeros behind them are equal exactly where they are equal without.
use mathlib.Core.List.{List}
use mathlib.Core.Path.{◌≡◌, sym, ap, ◌∙◌}
use Prim.Native.Nat.{ℕ, ◌≤◌}
use lib.ListN.{length, take}
use Rattle.bits.specs.Zero.{padded}
use Rattle.bits.proofs.Zeros.{take_padded}
use Rattle.pairs.specs.Lists.{equal}
use Rattle.pairs.proofs.ListLaws.{decide, same_equal, not_equal}

pub equal_padded : (n k : ℕ) (a b : List ℕ) → length a ≡ k → length b ≡ k → k ≤ n → equal (padded n a) (padded n b) ≡ equal a b
equal_padded n k a b la lb fits = by (decide a b)
  where
    by : Dec (a ≡ b) → equal (padded n a) (padded n b) ≡ equal a b
    by (yes e) = same_equal (padded n a) (padded n b) (ap (padded n) e) ∙ sym (same_equal a b e)
    by (no h) =
        not_equal (padded n a) (padded n b) (λ e. h (sym (take_padded n k a la fits) ∙ ap (take k) e ∙ take_padded n k b lb fits))
        ∙ sym (not_equal a b h)
