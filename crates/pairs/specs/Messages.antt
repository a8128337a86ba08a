-- The message that bytes with a count of bits stand for.
use Rattle.std.specs.Prelude.{List, ℕ}
use Rattle.simd.specs.Message.{message}
use Rattle.pairs.specs.declared.Message.{Message}

abbrev pub bits_in : Message → List ℕ
bits_in m = message m.bytes.now m.bits
