-- The number of each refusal, as README's table has it. 3 is retired.
use Rattle.std.specs.Prelude.{ℕ, Result, Ok, Err}
use Rattle.refusals.specs.declared.Refusal.{Refusal}
use Rattle.refusals.specs.declared.Refusal.TheVariants.{Width, Count, Total, Hash, Output, Block, Form, Tail, Command, End, Order, Tape, Entry, Index}

abbrev pub number : Refusal → ℕ
number Width = 1
number Count = 2
number Total = 4
number Hash = 5
number Output = 6
number Block = 7
number Form = 8
number Tail = 9
number Command = 10
number End = 11
number Order = 12
number Tape = 13
number Entry = 14
number Index = 15

-- The number of an answer: 0 where nothing is refused.
abbrev pub number_of : {A : Type 0} → Result A Refusal → ℕ
number_of (Ok a) = 0
number_of (Err r) = number r
