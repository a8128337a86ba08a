-- The ways out of the check of an entry.
use mathlib.Core.Bool.{true, false}
use mathlib.Core.List.{List}
use mathlib.Core.Path.{◌≡◌}
use Prim.Native.Nat.{ℕ, ◌<◌, ◌≤◌}
use borrow.Author.Tests.{le-leb, lt-leb, eq-eqb, ne_eqb}
use lib.ListN.{length}
use Rattle.simd.specs.Basic.{is_width, digest_bytes}
use Rattle.hash.specs.Open.{first}
use Rattle.ledger.specs.Page.{entry_bytes, entry_refusal, print_refusal}

module _ (number width : ℕ) (digest : List ℕ) (room : ℕ) where
  pub unknown_width : is_width width ≡ false → 1 ≡ print_refusal number width digest room
  unfolding print_refusal entry_refusal first
  unknown_width unknown = rw unknown

  module _ (known : is_width width ≡ true) where
    pub other_length : (length digest ≡ digest_bytes width → ⊥) → 7 ≡ print_refusal number width digest room
    unfolding print_refusal entry_refusal first
    other_length other = rw (known, ne_eqb (length digest) (digest_bytes width) other)

    module _ (size : length digest ≡ digest_bytes width) where
      pub number_above : 999999 < number → 14 ≡ print_refusal number width digest room
      unfolding print_refusal entry_refusal first
      number_above above = rw (known, eq-eqb (length digest) (digest_bytes width) size, lt-leb number 999999 above)

      module _ (low : number ≤ 999999) where
        pub room_short : room < entry_bytes width → 6 ≡ print_refusal number width digest room
        unfolding print_refusal entry_refusal first
        room_short short =
            rw (known, eq-eqb (length digest) (digest_bytes width) size, le-leb number 999999 low, lt-leb (entry_bytes width) room short)

        pub room_enough : entry_bytes width ≤ room → 0 ≡ print_refusal number width digest room
        unfolding print_refusal entry_refusal first
        room_enough enough =
            rw (known, eq-eqb (length digest) (digest_bytes width) size, le-leb number 999999 low, le-leb (entry_bytes width) room enough)
