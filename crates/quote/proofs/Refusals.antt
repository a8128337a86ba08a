-- The ways out of the check of a digest that is to be quoted.
use mathlib.Core.Bool.{true, false}
use mathlib.Core.List.{List}
use mathlib.Core.Path.{◌≡◌}
use Prim.Native.Nat.{ℕ, ◌<◌, ◌≤◌}
use borrow.Author.Tests.{le-leb, lt-leb, eq-eqb, ne_eqb, eqb-true, leb-true}
use lib.Dec.{leb, eqb}
use lib.ListN.{length}
use Rattle.simd.specs.Basic.{is_width, digest_bytes}
use Rattle.hash.proofs.Digests.{digest_bounds}
use Rattle.hash.proofs.Refusing.{passed}
use Rattle.quote.specs.Call.{quote_refusal}

module _ (width : ℕ) (digest : List ℕ) (room : ℕ) where
  pub unknown_width : is_width width ≡ false → 1 ≡ quote_refusal width digest room
  unfolding quote_refusal
  unknown_width unknown = rw unknown

  module _ (known : is_width width ≡ true) where
    pub other_length : (length digest ≡ digest_bytes width → ⊥) → 7 ≡ quote_refusal width digest room
    unfolding quote_refusal
    other_length other = rw (known, ne_eqb (length digest) (digest_bytes width) other)

    module _ (size : length digest ≡ digest_bytes width) where
      pub room_short : room < 18 → 6 ≡ quote_refusal width digest room
      unfolding quote_refusal
      room_short short = rw (known, eq-eqb (length digest) (digest_bytes width) size, lt-leb 18 room short)

      pub room_enough : 18 ≤ room → 0 ≡ quote_refusal width digest room
      unfolding quote_refusal
      room_enough enough = rw (known, eq-eqb (length digest) (digest_bytes width) size, le-leb 18 room enough)

-- What holds where nothing is refused.
pub record Facts (digest : List ℕ) (room : ℕ) : Type 0 where
  pub enough : 8 ≤ length digest
  pub fits : 18 ≤ room

pub facts : (width : ℕ) (digest : List ℕ) (room : ℕ) → quote_refusal width digest room ≡ 0 → Facts digest room
unfolding quote_refusal
facts width digest room none =
    let one = passed (is_width width) _ 0 none in
    let two = passed (eqb (length digest) (digest_bytes width)) _ 6 one.1 in
    let three = passed (leb 18 room) 0 5 two.1 in
    record {
      enough = rw (eqb-true (length digest) (digest_bytes width) two.0) (digest_bounds width one.0).1;
      fits = leb-true 18 room three.0;
    }
