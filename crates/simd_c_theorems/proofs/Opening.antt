-- The hash that is opened at a known width.
use mathlib.Core.Bool.{true}
use mathlib.Core.List.{[]}
use mathlib.Core.Path.{◌≡◌, refl, ap}
use Prim.Native.Nat.{ℕ, ◌%◌, ◌^◌, ◌<◌, ◌≤◌}
use native.Mathlib.Omega.{arith}
use lib.Dec.{lit<}
use lib.ListN.{length}
use Rattle.simd.specs.Basic.{Family, small, large, family_of, is_width, block_bits}
use Rattle.simd.specs.Constants.{start}
use Rattle.laws.proofs.Bits.{Bits}
use Rattle.tail.proofs.Sizes.{words_within}
use Rattle.bits.proofs.Zeros.{get_d_padded}
use Rattle.hash.specs.Open.{Opened, holding, legal, open_answer}
use Rattle.hash.proofs.Holding.{Value}
use Rattle.hash_theorems.proofs.Held.{held_legal}
use Rattle.hash.proofs.Feeding.{at_widths, start_length}
use Rattle.hash_theorems.proofs.Advanced.{held_sized}
use Rattle.hash_theorems.proofs.Theorems.{open_known}
use Rattle.hash.proofs.Fitting.{start_fits}

none_used : (f : Family) → 0 ≡ 0 % block_bits f
none_used small = refl
none_used large = refl

no_bit : Bits []
no_bit i = omega arith

module _ (width : ℕ) (known : is_width width ≡ true) where
  words_room : length (start width) ≤ 32
  words_room = omega (arith, start_length width known, words_within (family_of width))

  pub opened_legal : legal (open_answer width).hash ≡ true
  opened_legal =
      rw (open_known width known) (held_legal width 0 (start width) [] (start_length width known) (none_used (family_of width)) no_bit known)

  first_value : Value (holding width 0 (start width) [])
  unfolding holding
  first_value =
      record {
        sized = held_sized width 0 (start width) [] no_bit;
        width_fits = at_widths (λ (w : ℕ). w < 2 ^ 16) (lit< tt) (lit< tt) (lit< tt) (lit< tt) width known;
        bits_fit = lit< tt;
        word_fits = λ i. rw (get_d_padded 32 (start width) i words_room) (start_fits width known i);
      }

  pub opened_value : Value (open_answer width).hash
  opened_value = rw (open_known width known) first_value

  pub opened_bits : (open_answer width).hash.bits ≡ 0
  unfolding holding
  opened_bits = ap (λ (o : Opened). o.hash.bits) (open_known width known)
