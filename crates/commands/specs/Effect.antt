-- What a command of a tape does.
use Rattle.std.specs.Prelude.{cond, List, [], ◌++◌, ℕ, ◌+◌, leb, length, take, drop}
use Rattle.simd.specs.Basic.{is_width}
use Rattle.simd.specs.Message.{bits_of, message}
use Rattle.hash.specs.Open.{limit}
use Rattle.reader.specs.declared.Command.{Command}
use Rattle.reader.specs.declared.Command.TheVariants.{Open, Full, Part, Take, Stop}

-- No hash is open, or one of a width that was fed these bits.
pub data Hashing : Type 0 where
  closed : Hashing
  opened : (width : ℕ) (fed : List ℕ) → Hashing

-- What a command does: the tape goes on, a digest is taken, the tape stops, or the command is refused with a number.
pub data Effect : Type 0 where
  goes : Hashing → Effect
  takes : (width : ℕ) (fed : List ℕ) → Effect
  stops : Effect
  refuses : (number : ℕ) → Effect

-- The 32 bytes of FULL and PART.
abbrev pub piece : List ℕ → ℕ → List ℕ
piece tape place = take 32 (drop place tape)

-- 4: the total is above the limit.
unfoldable pub feeding : ℕ → List ℕ → List ℕ → Effect
feeding width fed bits = cond (leb (length fed + length bits) limit) (goes (opened width (fed ++ bits))) (refuses 4)

-- 12: OPEN while open, or FULL, PART, TAKE while not. 1: no such width. Of the 32 bytes of PART all that stands past its count is ignored.
unfoldable pub effect : List ℕ → Hashing → Command → Effect
effect tape closed (Open w) = cond (is_width w) (goes (opened w [])) (refuses 1)
effect tape closed (Full p) = refuses 12
effect tape closed (Part n p) = refuses 12
effect tape closed Take = refuses 12
effect tape closed Stop = stops
effect tape (opened width fed) (Open w) = refuses 12
effect tape (opened width fed) (Full p) = feeding width fed (bits_of (piece tape p))
effect tape (opened width fed) (Part n p) = feeding width fed (message (piece tape p) n)
effect tape (opened width fed) Take = takes width fed
effect tape (opened width fed) Stop = stops
