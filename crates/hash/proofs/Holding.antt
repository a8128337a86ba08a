-- What every hash keeps to, and what every legal one does.
use mathlib.Core.Bool.{true, ◌&&◌}
use mathlib.Core.Path.{◌≡◌}
use Prim.Native.Nat.{ℕ, ◌^◌, ◌<◌}
use native.Mathlib.Omega.{arith}
use lib.ListN.{length, get_or, drop, length-take}
use Rattle.simd.specs.Basic.{is_width, state_words}
use Rattle.tail.proofs.Sizes.{words_within}
use Rattle.bits.specs.Zero.{all_zero, clear}
use Rattle.hash.specs.Open.{family, used, reached, legal}
use Rattle.hash.specs.declared.Hash.{Hash}
use Rattle.bits.proofs.Zeros.{and_left, and_right}

-- What every value of the struct keeps to: the lengths of its arrays and the ranges of its bytes, and further of its other numbers.
pub record Sized (h : Hash) : Type 0 where
  pub words : length h.state ≡ 32
  pub bytes : length h.tail ≡ 128
  pub byte_fits : (i : ℕ) → get_or h.tail i 0 < 256

pub record Value (h : Hash) : Type 0 where
  pub sized : Sized h
  pub width_fits : h.width < 2 ^ 16
  pub bits_fit : h.bits < 2 ^ 64
  pub word_fits : (i : ℕ) → get_or h.state i 0 < 2 ^ 32

pub length_reached : (h : Hash) → length h.state ≡ 32 → length (reached h) ≡ state_words (family h)
unfolding reached
length_reached h long = omega (arith, length-take (state_words (family h)) h.state, words_within (family h))

pub legal_width : (h : Hash) → legal h ≡ true → is_width h.width ≡ true
unfolding legal
legal_width h good = and_left (is_width h.width) (all_zero (drop (state_words (family h)) h.state) && clear (used h) h.tail) good

pub legal_state : (h : Hash) → legal h ≡ true → all_zero (drop (state_words (family h)) h.state) ≡ true
unfolding legal
legal_state h good =
    and_left (all_zero (drop (state_words (family h)) h.state)) (clear (used h) h.tail)
    (and_right (is_width h.width) (all_zero (drop (state_words (family h)) h.state) && clear (used h) h.tail) good)

pub legal_tail : (h : Hash) → legal h ≡ true → clear (used h) h.tail ≡ true
unfolding legal
legal_tail h good =
    and_right (all_zero (drop (state_words (family h)) h.state)) (clear (used h) h.tail)
    (and_right (is_width h.width) (all_zero (drop (state_words (family h)) h.state) && clear (used h) h.tail) good)
