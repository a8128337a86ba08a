-- The number that the run and the length blocks give is that of the definition.
use mathlib.Core.Bool.{Bool, true, false, cond, not, ◌&&◌}
use mathlib.Core.List.{List}
use mathlib.Core.Path.{◌≡◌, refl, sym, ap, ◌∙◌}
use Prim.Native.Nat.{ℕ, suc, ◌*◌, ◌^◌, ◌<◌, ◌≤◌, min}
use lib.ListN.{length}
use native.Mathlib.Decide.{ℕ_discrete}
use native.Mathlib.Omega.{arith}
use borrow.Author.Tests.{eq-eqb, ne_eqb}
use lib.Dec.{eqb}
use Rattle.simd.specs.Basic.{Family, family_of, is_width, state_words}
use Rattle.simd.specs.Constants.{start}
use Rattle.simd.specs.Message.{message, length_block, message_blocks}
use Rattle.simd.specs.Hash.{compressions}
use Rattle.tail.proofs.Sizes.{words_within}
use Rattle.hash.proofs.Feeding.{length_message}
use Rattle.pairs.specs.Lists.{equal, least}
use Rattle.pairs.specs.Pairs.{unlike, block_at, differ_at}
use Rattle.pairs.specs.Compared.{common}
use Rattle.pairs.proofs.ListLaws.{same_equal, not_equal}
use Rattle.pairs.proofs.MessageLaws.{length_ext}
use Rattle.pairs.proofs.PaddedLaws.{equal_padded}
use Rattle.lockstep.specs.Lockstep.{Reached}
use Rattle.lockstep.proofs.RunLaws.{length_state}

-- The length blocks are equal exactly where the lengths are.
length_test : (f : Family) (m n : ℕ) → m < 2 ^ 64 → n < 2 ^ 64 → Dec (m ≡ n) → equal (length_block f m) (length_block f n) ≡ eqb m n
length_test f m n hm hn (yes e) = same_equal (length_block f m) (length_block f n) (ap (length_block f) e) ∙ sym (eq-eqb m n e)
length_test f m n hm hn (no h) = not_equal (length_block f m) (length_block f n) (λ e. h (length_ext f m n hm hn e)) ∙ sym (ne_eqb m n h)

turned : (q : Bool) (x : ℕ) → cond q x 0 ≡ cond (not q) 0 x
turned true x = refl
turned false x = refl

module _ (width : ℕ) (a : List ℕ) (m : ℕ) (b : List ℕ) (n : ℕ) (known : is_width width ≡ true)
    (within_a : m ≤ 8 * length a) (short_a : m < 2 ^ 64) (within_b : n ≤ 8 * length b) (short_b : n < 2 ^ 64) where
  abbrev f : Family
  f = family_of width

  abbrev x : List ℕ
  x = message a m

  abbrev y : List ℕ
  y = message b n

  common_numbers : common f x y ≡ suc (min (message_blocks f m) (message_blocks f n))
  unfolding common compressions
  common_numbers = rw (length_message a m within_a, length_message b n within_b) (omega arith)

  -- At the length blocks.
  differ_length : {s t : List ℕ} → Reached width x y 0 s t → not (equal s t && eqb m n) ≡ differ_at f (start width) x y 0
  unfolding differ_at unlike block_at
  differ_length reached =
      rw (reached.first, reached.second, equal_padded 32 (state_words f) _ _ (length_state width known x 0) (length_state width known y 0) (words_within f))
      (rw (
        length_message a m within_a,
        length_message b n within_b,
        length_test f m n short_a short_b (ℕ_discrete m n),
      ) refl)

  pub meeting_number : {k met r : ℕ} {s t : List ℕ} → k ≡ min (message_blocks f m) (message_blocks f n) → Reached width x y 0 s t
      → met ≡ least (differ_at f (start width) x y) k 1 → r ≡ cond (equal s t && eqb m n) met 0
      → r ≡ least (differ_at f (start width) x y) (common f x y) 0
  unfolding least
  meeting_number {k} {met} {r} {s} {t} fewer reached so_far e =
      e ∙ rw (common_numbers, ← fewer) (turned (equal s t && eqb m n) met ∙ rw (differ_length reached, so_far))
