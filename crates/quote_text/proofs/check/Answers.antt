-- 100 times the remainder leaves what 100 times the number does.
use mathlib.Core.Path.{sym, ap, ◌∙◌}
use Prim.Native.Nat.{◌-◌, ◌*◌, ◌%◌}
use native.Mathlib.Nat.{add-zero}
use native.Mathlib.Omega.{arith}
use Rattle.check_digits.specs.Quote.{number, check as checkOf}
use Rattle.check_digits.proofs.Modulo.{times}
use Rattle.quote_text.proofs.check.Goals as goal

pub returns : goal.returns
unfolding checkOf
returns c =
    let n = number c.args.digits.now in (
      (λ i. 98 - 100 * c.remainder.ensures.0 i % 97)
          ∙ ap (λ v. 98 - v % 97) (sym (add-zero (100 * (n % 97))))
          ∙ ap (λ v. 98 - v) (times 100 n 0 0 (100 * n) (omega arith)),
      omega arith,
    )
