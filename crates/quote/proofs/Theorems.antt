-- The quote of every message's digest is right.
use mathlib.Core.Bool.{true}
use mathlib.Core.List.{List}
use mathlib.Core.Path.{◌≡◌}
use Prim.Native.Nat.{ℕ, ◌*◌, ◌<◌}
use native.Mathlib.Nat.{mod-lt}
use native.Mathlib.Omega.{arith}
use native.Mathlib.Decide.{dec_lt}
use lib.Dec.{lit<}
use lib.ListN.{length, get_or, get_or-eq_default}
use lib.Seq.{get_or-take}
use Rattle.simd.specs.Basic.{is_width, bytes_of, digest_bytes}
use Rattle.simd.specs.Hash.{final_state, digest}
use Rattle.laws.proofs.LittleEndian.{length_bytes_of, get_d_bytes_of}
use Rattle.hash.proofs.Digests.{length_digest, digest_bounds}
use Rattle.check_digits.specs.Quote.{quote, is_right}
use Rattle.check_digits.proofs.Theorems.{quote_right}

byte_of_words : (words : List ℕ) (i : ℕ) → get_or (bytes_of words) i 0 < 256
byte_of_words words i = elim (dec_lt i (4 * length words)) [
  | yes inside ↦ rw (get_d_bytes_of words i inside) (mod-lt _ (lit< tt))
  | no past ↦ rw (get_or-eq_default (bytes_of words) 0 {n = i} (omega (arith, length_bytes_of words))) (lit< tt)
]

pub digest_byte : (width : ℕ) → is_width width ≡ true → (m : List ℕ) (i : ℕ) → get_or (digest width m) i 0 < 256
unfolding digest
digest_byte width known m i = elim (dec_lt i (digest_bytes width)) [
  | yes inside ↦ rw (get_or-take (digest_bytes width) (bytes_of (final_state width m)) i 0 inside) (byte_of_words (final_state width m) i)
  | no past ↦ rw (get_or-eq_default (digest width m) 0 {n = i} (omega (arith, length_digest width known m))) (lit< tt)
]

pub quoted_right : (width : ℕ) → is_width width ≡ true → (m : List ℕ) → is_right (quote (digest width m)) ≡ true
quoted_right width known m =
    quote_right (digest width m) (omega (arith, length_digest width known m, (digest_bounds width known).1)) (digest_byte width known m)
