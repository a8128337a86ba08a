-- What is told of a byte string and a count of bits that are not refused: they stand for a message.
use mathlib.Core.List.{List}
use mathlib.Core.Path.{◌≡◌}
use Prim.Native.Nat.{ℕ}
use native.Mathlib.Omega.{arith}
use Rattle.simd.specs.Message.{message}
use Rattle.hash.specs.Open.{piece_refusal}
use Rattle.hash.proofs.Feeding.{length_message, bits_message}
use Rattle.hash.proofs.Refusing.{accepted}
use Rattle.pairs.proofs.MessageLaws.{IsMessage}

pub is_message : (bytes : List ℕ) (count : ℕ) → piece_refusal 0 bytes count ≡ 0 → IsMessage (message bytes count)
is_message bytes count none =
    let piece = accepted 0 bytes count none in
    record { bits = bits_message bytes count; short = omega (arith, piece.short, length_message bytes count piece.within) }
