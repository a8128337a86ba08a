-- What a comparison and a tape answer in numbers, and what they leave behind in what they were lent.
use Rattle.std.specs.Prelude.{List, ℕ, zero, suc, length}
use Rattle.tape.specs.Run.{Run, closed, run_from, within}
use Rattle.pairs.specs.declared.Verdict.{Verdict}
use Rattle.pairs.specs.declared.Verdict.TheVariants.{Same, Apart, Meet, Refused}

-- simd_compare: the answer's refusal, its verdict (0 Same, 1 Apart, 2 Meet) and the number of the block where two messages meet.
unfoldable pub refusal_of : Verdict → ℕ
refusal_of Same = 0
refusal_of Apart = 0
refusal_of (Meet k) = 0
refusal_of (Refused n) = n

-- The numbers behind the pointers afterwards. A refusal leaves them as they were.
unfoldable pub verdict_after : Verdict → ℕ → ℕ
verdict_after Same old = 0
verdict_after Apart old = 1
verdict_after (Meet k) old = 2
verdict_after (Refused n) old = old

unfoldable pub block_after : Verdict → ℕ → ℕ
block_after Same old = 0
block_after Apart old = 0
block_after (Meet k) old = k
block_after (Refused n) old = old

-- simd_tape: the run whose digests go into the output lent. Its place is written where it is refused.
unfoldable pub run_within : List ℕ → List ℕ → Run
run_within tape out = within (length out) (run_from tape 0 closed)

unfoldable pub placed : ℕ → ℕ → ℕ → ℕ
placed zero new old = old
placed (suc n) new old = new
