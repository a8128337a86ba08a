-- Laws of columns written into a buffer.
use mathlib.Core.List.{List, [], ◌∷◌, ◌++◌, append_assoc}
use mathlib.Core.Path.{◌≡◌, sym, ap, ◌∙◌}
use Prim.Native.Nat.{ℕ, ◌+◌, ◌*◌, ◌-◌, ◌≤◌}
use native.Mathlib.Omega.{arith}
use lib.ListN.{length, set, length-append, length-replicate, replicate-append-replicate}
use Rattle.text.specs.Text.{over, decimal, hex}
use Rattle.text.proofs.Over.{length_over, over_byte, over_end}
use Rattle.text.proofs.Words.{length_hex}
use Rattle.ledger.specs.Page.{spaces, right, left}

-- A number: spaces, and over the last of them the digits and the space behind these.
module _ (t : List ℕ) (at columns n : ℕ) (few : length (decimal n) ≤ columns) (fits : at + columns + 1 ≤ length t) where
  pub number_written : (count start : ℕ) (part x y : List ℕ) → count ≡ length (decimal n ++ (32 ∷ [])) → start ≡ at + (columns + 1) - count
      → part ≡ decimal n ++ (32 ∷ []) → x ≡ over t at (spaces (columns + 1)) → y ≡ over x start part
      → y ≡ over t at (right columns (decimal n) ++ (32 ∷ []))
  unfolding right
  number_written count start part x y counted placed parted filled wrote =
      let d = decimal n in
      let gap = columns - length d in
      let size = length-append d (32 ∷ []) in
      let whole : gap + (length d + 1) ≡ columns + 1 = omega arith in
      let blank : spaces (columns + 1) ≡ spaces gap ++ spaces (length d + 1) =
      ap spaces (sym whole) ∙ sym (replicate-append-replicate gap (length d + 1) 32) in
      let long = length-replicate {A = ℕ} gap 32 in
      let place : start ≡ at + length (spaces gap) = omega arith in
      wrote
      ∙ (λ i. over ((filled ∙ ap (over t at) blank) i) (place i) (parted i))
      ∙ over_end t at (spaces gap) (spaces (length d + 1)) (d ++ (32 ∷ [])) (omega (arith, length-replicate {A = ℕ} (length d + 1) 32)) (omega arith)
      ∙ ap (over t at) (sym (append_assoc (spaces gap) d (32 ∷ [])))

-- The digits of a line: the byte behind them is written again, as a space or as the line's end.
module _ (t : List ℕ) (at : ℕ) (bytes : List ℕ) (few : length bytes ≤ 32) (fits : at + 65 ≤ length t) where
  pub digits_written : (gap end : ℕ) (x y : List ℕ) → gap ≡ 64 - 2 * length bytes → end ≡ at + 2 * length bytes + gap
      → x ≡ over t at (hex bytes ++ (32 ∷ [])) → y ≡ over x (at + 2 * length bytes) (spaces gap)
      → set y end 10 ≡ over t at (left 64 (hex bytes) ++ (10 ∷ []))
  unfolding left
  digits_written gap end x y gapped ended digits filled =
      let h = hex bytes in
      let size = length_hex bytes in
      let place : at + 2 * length bytes ≡ at + length h = omega arith in
      let rest : gap ≡ 64 - length h = omega arith in
      let blank = spaces (64 - length h) in
      let long = length-replicate {A = ℕ} (64 - length h) 32 in
      let tail = length-append blank (10 ∷ []) in
      let kept = length_over t at (h ++ (32 ∷ [])) (omega (arith, length-append h (32 ∷ []))) in
      (λ i. set ((filled ∙ λ j. over (digits j) (place j) (spaces (rest j))) i) end 10)
      ∙ over_byte (over t at (h ++ (32 ∷ []))) (at + length h) blank 10 end (omega arith) (omega arith)
      ∙ over_end t at h (32 ∷ []) (blank ++ (10 ∷ [])) (omega arith) (omega arith)
      ∙ ap (over t at) (sym (append_assoc h blank (10 ∷ [])))
