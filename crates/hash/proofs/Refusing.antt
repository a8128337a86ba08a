-- Laws of refusals: one for each way out of a check.
use mathlib.Core.Bool.{Bool, true, false, cond}
use mathlib.Core.List.{List, ◌++◌}
use mathlib.Core.Path.{◌≡◌, refl, ap}
use Prim.Native.Nat.{ℕ, zero, suc, ◌+◌, ◌*◌, ◌<◌, ◌≤◌}
use native.Mathlib.Omega.{arith}
use borrow.Author.Tests.{leb-true, le-leb, lt-leb}
use lib.Dec.{leb}
use lib.ListN.{length, drop}
use Rattle.hash.specs.Open.{limit, piece_refusal, written, stored, first}
pub use Rattle.hash_parts.proofs.Refusing.{passed}

pub chosen : (test : Bool) (x y : ℕ) → test ≡ true → x ≡ cond test x y
chosen test x y good = rw good

pub other : (test : Bool) (x y : ℕ) → test ≡ false → y ≡ cond test x y
other test x y bad = rw bad

module _ (n : ℕ) (piece : List ℕ) (count : ℕ) where
  pub count_above : 8 * length piece < count → 2 ≡ piece_refusal n piece count
  unfolding piece_refusal
  count_above above = rw (lt-leb count (8 * length piece) above)

  pub total_above : count ≤ 8 * length piece → limit < n + count → 4 ≡ piece_refusal n piece count
  unfolding piece_refusal
  total_above within above = rw (le-leb count (8 * length piece) within, lt-leb (n + count) limit above)

  pub total_within : count ≤ 8 * length piece → n + count ≤ limit → 0 ≡ piece_refusal n piece count
  unfolding piece_refusal
  total_within within short = rw (le-leb count (8 * length piece) within, le-leb (n + count) limit short)

-- A first refusal hides a second one, and a refusal leaves the buffer and the number that were lent.
pub first_refused : (r s : ℕ) → (r ≡ 0 → ⊥) → first r s ≡ r
unfolding first
first_refused zero s some = absurd (some refl)
first_refused (suc n) s some = refl

pub first_accepted : (r s : ℕ) → r ≡ 0 → first r s ≡ s
unfolding first
first_accepted r s none = ap (λ n. first n s) none

pub written_refused : (r : ℕ) (bytes out : List ℕ) → (r ≡ 0 → ⊥) → written r bytes out ≡ out
unfolding written
written_refused zero bytes out some = absurd (some refl)
written_refused (suc n) bytes out some = refl

pub written_accepted : (r : ℕ) (bytes out : List ℕ) → r ≡ 0 → written r bytes out ≡ bytes ++ drop (length bytes) out
unfolding written
written_accepted r bytes out none = ap (λ n. written n bytes out) none

pub stored_refused : (r new old : ℕ) → (r ≡ 0 → ⊥) → stored r new old ≡ old
unfolding stored
stored_refused zero new old some = absurd (some refl)
stored_refused (suc n) new old some = refl

pub stored_accepted : (r new old : ℕ) → r ≡ 0 → stored r new old ≡ new
unfolding stored
stored_accepted r new old none = ap (λ n. stored n new old) none

pub both_passed : (r s : ℕ) → first r s ≡ 0 → (r ≡ 0) × (s ≡ 0)
unfolding first
both_passed zero s e = (refl, e)
both_passed (suc r) s e = absurd (omega arith)

pub record Accepted (n : ℕ) (piece : List ℕ) (count : ℕ) : Type 0 where
  pub within : count ≤ 8 * length piece
  pub short : n + count ≤ limit

pub accepted : (n : ℕ) (piece : List ℕ) (count : ℕ) → piece_refusal n piece count ≡ 0 → Accepted n piece count
unfolding piece_refusal
accepted n piece count none =
    let counted = passed (leb count (8 * length piece)) _ 1 none in
    let total = passed (leb (n + count) limit) 0 3 counted.1 in
    record { within = leb-true count (8 * length piece) counted.0; short = leb-true (n + count) limit total.0 }
