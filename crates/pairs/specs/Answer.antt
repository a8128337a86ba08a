-- The answer of `compare`: a refusal with its number, or what the comparison finds.
use Rattle.std.specs.Prelude.{cond, List, ℕ, zero, suc}
use Rattle.simd.specs.Basic.{is_width}
use Rattle.simd.specs.Message.{message}
use Rattle.hash.specs.Open.{first, piece_refusal}
use Rattle.pairs.specs.Compared.{Found, same, apart, meet, compared}
use Rattle.pairs.specs.declared.Verdict.{Verdict}
use Rattle.pairs.specs.declared.Verdict.TheVariants.{Same, Apart, Meet, Refused}

-- The refusal of a comparison: 1 where the width is none of the four, then the first message's, then the second's. A message is refused as a
-- piece with no bits before it.
unfoldable pub refusal : ℕ → List ℕ → ℕ → List ℕ → ℕ → ℕ
refusal width a na b nb = cond (is_width width) (first (piece_refusal 0 a na) (piece_refusal 0 b nb)) 1

-- The cases of the answer: `Refused` has the refusal's number, and where there is none (0) `Meet` has the number of the block.
unfoldable pub verdict : ℕ → Found → Verdict
verdict (suc n) found = Refused (suc n)
verdict zero same = Same
verdict zero apart = Apart
verdict zero (meet k) = Meet k

unfoldable pub answer : ℕ → List ℕ → ℕ → List ℕ → ℕ → Verdict
answer width a na b nb = verdict (refusal width a na b nb) (compared width (message a na) (message b nb))
