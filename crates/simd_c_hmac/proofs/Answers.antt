-- The refusal that a take answers.
use mathlib.Core.List.{List}
use mathlib.Core.Path.{◌≡◌, refl}
use Prim.Native.Nat.{ℕ, zero, suc}
use Rattle.hmac.specs.Keyed.{take_answer, take_refusal, taken}
use Rattle.hmac.specs.declared.Hmac.{Hmac}

taken_refusal : (r : ℕ) (k : Hmac) → (taken r k).refusal ≡ r
unfolding taken
taken_refusal zero k = refl
taken_refusal (suc n) k = refl

pub answered_refusal : (k : Hmac) (out : List ℕ) → (take_answer k out).refusal ≡ take_refusal k out
unfolding take_answer
answered_refusal k out = taken_refusal (take_refusal k out) k
