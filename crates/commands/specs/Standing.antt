-- How the program's hash stands for what a tape has open, and what a step makes of it.
use Rattle.std.specs.Prelude.{true, List, [], ◌≡◌, ℕ, ◌≤◌, ◌<◌, length, get_or}
use Rattle.simd.specs.Basic.{is_width}
use Rattle.simd.specs.Constants.{start}
use Rattle.hash.specs.declared.Hash.{Hash}
use Rattle.hash.specs.Open.{limit, holding, advanced}
use Rattle.reader.specs.declared.Command.{Command}
use Rattle.reader.specs.declared.Command.TheVariants.{Open, Take}
use Rattle.commands.specs.Effect.{Hashing, closed, opened, Effect, goes, takes, stops, refuses, effect}
use Rattle.commands.specs.declared.Step.{Step}

-- The hash of a width that was fed these bits.
pub record Stands (width : ℕ) (fed : List ℕ) (hash : Hash) : Type 0 where
  pub known : is_width width ≡ true
  pub short : length fed ≤ limit
  pub bits : (i : ℕ) → get_or fed i 0 < 2
  pub same : hash ≡ advanced (holding width 0 (start width) []) fed

-- Width 0: no hash is open.
abbrev pub StandsFor : Hashing → Hash → Type 0
StandsFor closed hash = hash.width ≡ 0
StandsFor (opened width fed) hash = Stands width fed hash

-- A step with an effect: the hash that goes on, or the refusal's number.
abbrev pub Steps : Effect → Step → Type 0
Steps (goes hashing) step = (step.refusal ≡ 0) × StandsFor hashing step.hash
Steps (takes width fed) step = step.refusal ≡ 0
Steps stops step = step.refusal ≡ 0
Steps (refuses number) step = (step.refusal ≡ number) × (0 < number)

-- What a step must be, whatever its hash stands for.
abbrev pub Obeys : List ℕ → Command → Hash → Step → Type 0
Obeys tape command hash step = (hashing : Hashing) → StandsFor hashing hash → Steps (effect tape hashing command) step

abbrev pub Opens : ℕ → Hash → Step → Type 0
Opens width hash step = (tape : List ℕ) → Obeys tape (Open width) hash step

abbrev pub Takes : Hash → Step → Type 0
Takes hash step = (tape : List ℕ) → Obeys tape Take hash step
