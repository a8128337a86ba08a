-- No refusal has the number 0: an answer's number tells whether it is one.
use Rattle.std.proofs.Common.{◌≡◌, ℕ, ◌<◌, arith, rules}
use Rattle.refusals.specs.declared.Refusal.{Refusal}
use Rattle.refusals.specs.declared.Refusal.TheVariants.{Width, Count, Total, Hash, Output, Block, Form, Tail, Command, End, Order, Tape, Entry, Index}
use Rattle.refusals.specs.Numbers.{number}

pub some_number : (r : Refusal) → 0 < number r
some_number Width = omega arith
some_number Count = omega arith
some_number Total = omega arith
some_number Hash = omega arith
some_number Output = omega arith
some_number Block = omega arith
some_number Form = omega arith
some_number Tail = omega arith
some_number Command = omega arith
some_number End = omega arith
some_number Order = omega arith
some_number Tape = omega arith
some_number Entry = omega arith
some_number Index = omega arith

-- The number of a refusal is that of no answer without one.
pub refused_not_0 : (r : Refusal) (n : ℕ) → number r ≡ n → n ≡ 0 → ⊥
refused_not_0 r n e none = let some = some_number r in omega (arith, some, e, none)
