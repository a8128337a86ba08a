-- The digest depends on the bits alone: what stands past the count of a message is ignored.
use mathlib.Core.Bool.{cond}
use mathlib.Core.List.{List}
use mathlib.Core.Path.{◌≡◌}
use Prim.Native.Nat.{ℕ}
use native.Mathlib.Omega.{arith}
use lib.Dec.{leb}
use Rattle.simd.specs.Basic.{is_width, digest_bytes}
use Rattle.simd.specs.Message.{message}
use Rattle.simd.specs.Hash.{digest}
use Rattle.hash.specs.Open.{first, piece_refusal, written}
use Rattle.hash.proofs.Ignored.{Agree, same_refusal, neither, neither_first, piece_not_3}
use Rattle.digest.specs.Call.{digest_refusal}

module _ (width : ℕ) {count : ℕ} {p q : List ℕ} (a : Agree count p q) where
  pub same_answer : (room : ℕ) → digest_refusal width p count room ≡ digest_refusal width q count room
  unfolding digest_refusal
  same_answer room = λ i. cond (is_width width) (first (same_refusal 0 a i) (cond (leb (digest_bytes width) room) 0 6)) 1

  pub same_digest : (out : List ℕ) (room : ℕ)
      → written (digest_refusal width p count room) (digest width (message p count)) out
      ≡ written (digest_refusal width q count room) (digest width (message q count)) out
  same_digest out room = λ i. written (same_answer room i) (digest width (a.bits i)) out

pub digest_not_3 : (width : ℕ) (bytes : List ℕ) (count room : ℕ) → digest_refusal width bytes count room ≡ 3 → ⊥
unfolding digest_refusal
digest_not_3 width bytes count room =
    neither (is_width width)
    (neither_first (piece_refusal 0 bytes count) _ (piece_not_3 0 bytes count)
    (neither (leb (digest_bytes width) room) (λ e. omega arith) (λ e. omega arith)))
    (λ e. omega arith)
