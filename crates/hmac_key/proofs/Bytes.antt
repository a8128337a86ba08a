-- A string of bytes as a message of whole bytes: all its bits are used. And an answer whose number is 0.
use mathlib.Core.List.{List}
use mathlib.Core.Path.{◌≡◌, refl}
use Prim.Native.Nat.{ℕ, ◌+◌, ◌*◌, ◌≤◌}
use native.Mathlib.Omega.{arith}
use borrow.Author.Tests.{le-leb}
use lib.ListN.{length}
use lib.Seq.{take_all}
use Rattle.std.specs.Prelude.{Result, Ok, Err, IsOk}
use Rattle.simd.specs.Message.{bits_of, message}
use Rattle.laws.proofs.Bits.{length_bits_of}
use Rattle.refusals.specs.declared.Refusal.{Refusal}
use Rattle.refusals.specs.Numbers.{number, number_of}
use Rattle.refusals.proofs.Numbers.{refused_not_0}
use Rattle.hash.specs.Open.{limit, piece_refusal}
use Rattle.hash.proofs.Feeding.{Whole}

module _ (bytes : List ℕ) where
  pub whole_bytes : Whole bytes (8 * length bytes)
  whole_bytes = omega arith

  pub message_bytes : message bytes (8 * length bytes) ≡ bits_of bytes
  unfolding message
  message_bytes = take_all (8 * length bytes) (bits_of bytes) (omega (arith, length_bits_of bytes))

  pub bytes_accepted : (n : ℕ) → n + 8 * length bytes ≤ limit → piece_refusal n bytes (8 * length bytes) ≡ 0
  unfolding piece_refusal
  bytes_accepted n short =
      rw (le-leb (8 * length bytes) (8 * length bytes) (omega arith), le-leb (n + 8 * length bytes) limit short)

pub not_0 : (r : Refusal) → number r ≡ 0 → ⊥
not_0 r none = refused_not_0 r _ refl none

pub ok_at_0 : {A : Type 0} (r : Result A Refusal) → number_of r ≡ 0 → IsOk r
ok_at_0 (Ok a) none = refl
ok_at_0 (Err r) none = absurd (not_0 r none)
