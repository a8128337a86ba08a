-- What holds of an entry that is not refused, and the room that one line and two lines need.
use mathlib.Core.Bool.{cond}
use mathlib.Core.List.{List}
use mathlib.Core.Path.{◌≡◌}
use Prim.Native.Nat.{ℕ, ◌*◌, ◌<◌, ◌≤◌}
use borrow.Author.Tests.{le-leb, lt-leb, leb-true}
use lib.Dec.{leb}
use Rattle.simd.specs.Basic.{digest_bytes}
use Rattle.hash.proofs.Refusing.{both_passed, passed}
use Rattle.ledger.specs.Page.{entry_bytes, entry_refusal, print_refusal}
use Rattle.ledger.proofs.Columns.{Facts, facts}

pub one_line_bytes : (width : ℕ) → 2 * digest_bytes width ≤ 64 → 76 ≡ entry_bytes width
unfolding entry_bytes
one_line_bytes width few = rw (le-leb (2 * digest_bytes width) 64 few)

pub two_line_bytes : (width : ℕ) → 64 < 2 * digest_bytes width → 152 ≡ entry_bytes width
unfolding entry_bytes
two_line_bytes width many = rw (lt-leb (2 * digest_bytes width) 64 many)

pub record Accepted (number width : ℕ) (digest : List ℕ) (room : ℕ) : Type 0 where
  pub facts : Facts number width digest
  pub enough : entry_bytes width ≤ room

pub accepted : (number width : ℕ) (digest : List ℕ) (room : ℕ) → print_refusal number width digest room ≡ 0 → Accepted number width digest room
unfolding print_refusal
accepted number width digest room none =
    let both = both_passed (entry_refusal number width digest) (cond (leb (entry_bytes width) room) 0 6) none in
    record {
      facts = facts number width digest both.0;
      enough = leb-true (entry_bytes width) room (passed (leb (entry_bytes width) room) 0 5 both.1).0;
    }
