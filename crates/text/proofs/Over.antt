-- Laws of `over`, a buffer with a string written at a place.
use mathlib.Core.List.{List, [], ◌∷◌, ◌++◌, append_assoc, append-nil}
use mathlib.Core.Path.{◌≡◌, sym, ap, ◌∙◌}
use Prim.Native.Nat.{ℕ, suc, ◌+◌, ◌-◌, ◌≤◌, ◌<◌}
use native.Mathlib.Nat.{add-zero, zero-add}
use native.Mathlib.Omega.{arith}
use lib.ListN.{length, get_or, take, drop, set, length-append, length-drop, take-append-drop}
use lib.Seq.{length-take-le, take_at, drop-cons, drop-drop, drop-append-add, set_at, append_snoc}
use Rattle.text.specs.Text.{over}

module _ (t : List ℕ) (at : ℕ) where
  pub over_nil : over t at [] ≡ t
  over_nil = rw (append-nil, add-zero) (take-append-drop at t)

  pub length_over : (s : List ℕ) → at + length s ≤ length t → length (over t at s) ≡ length t
  length_over s fits =
      let front : length (take at t) ≡ at = length-take-le at t (omega arith) in
      simp (length-append, length-drop) (omega arith)

  head_length : (s : List ℕ) → at + length s ≤ length t → length (take at t ++ s) ≡ at + length s
  head_length s fits =
      let front : length (take at t) ≡ at = length-take-le at t (omega arith) in
      simp length-append (omega arith)

  -- The tail after the string is the old one.
  drop_over :
      (s : List ℕ) (k : ℕ) → at + length s ≤ length t → drop (at + length s + k) (over t at s) ≡ drop (at + length s + k) t
  drop_over s k fits =
      let p = take at t ++ s in
      ap (λ (n : ℕ). drop (n + k) (p ++ drop (at + length s) t)) (sym (head_length s fits))
      ∙ drop-append-add p (drop (at + length s) t) k
      ∙ drop-drop k (at + length s) t

  -- A second string straight after the first.
  pub over_over : (a b : List ℕ) → at + length a ≤ length t → over (over t at a) (at + length a) b ≡ over t at (a ++ b)
  over_over a b fits =
      let p = take at t ++ a in
      let n = at + length a in
      let first : take n (over t at a) ≡ p = take_at p (drop n t) n (head_length a fits) in
      let joined : p ++ b ≡ take at t ++ (a ++ b) = append_assoc (take at t) a b in
      let count : n + length b ≡ at + length (a ++ b) = simp length-append (omega arith) in
      let last = drop_over a (length b) fits in
      (λ i. first i ++ b ++ last i) ∙ (λ i. joined i ++ drop (count i) t)

  -- One byte straight after it.
  pub over_byte : (s : List ℕ) (v n : ℕ) → n ≡ at + length s → n < length t → set (over t at s) n v ≡ over t at (s ++ (v ∷ []))
  over_byte s v n place fits =
      let p = take at t ++ s in
      let size : length p ≡ n = head_length s (omega arith) ∙ sym place in
      let tail : drop n t ≡ get_or t n 0 ∷ drop (suc n) t = drop-cons t n 0 fits in
      let joined : p ++ (v ∷ []) ≡ take at t ++ (s ++ (v ∷ [])) = append_assoc (take at t) s (v ∷ []) in
      let count : suc n ≡ at + length (s ++ (v ∷ [])) = simp length-append (omega arith) in
      ap (λ (k : ℕ). set (p ++ drop k t) n v) (sym place)
      ∙ ap (λ (l : List ℕ). set (p ++ l) n v) tail
      ∙ set_at p (get_or t n 0) (drop (suc n) t) v n size
      ∙ sym (append_snoc p v (drop (suc n) t))
      ∙ (λ i. joined i ++ drop (count i) t)

  pub over_pair :
      (s : List ℕ) (v w n : ℕ) → n ≡ at + length s → n + 1 < length t
      → set (set (over t at s) n v) (n + 1) w ≡ over t at (s ++ (v ∷ w ∷ []))
  over_pair s v w n place fits =
      let size : length (s ++ (v ∷ [])) ≡ length s + 1 = length-append s (v ∷ []) in
      ap (λ (l : List ℕ). set l (n + 1) w) (over_byte s v n place (omega arith))
      ∙ over_byte (s ++ (v ∷ [])) w (n + 1) (omega arith) fits
      ∙ ap (over t at) (append_assoc s (v ∷ []) (w ∷ []))

-- What is written from the start of a buffer, string after string.
pub record Wrote (t s x : List ℕ) (m : ℕ) : Type 0 where
  pub buffer : x ≡ over t 0 s
  pub place : m ≡ length s

pub wrote_more :
    {t a x y : List ℕ} {m n : ℕ} → Wrote t a x m → (b : List ℕ) → y ≡ over x m b → n ≡ m + length b → m ≤ length t → Wrote t (a ++ b) y n
wrote_more {t} {a} {m = m} w b second more fits =
    let place : m ≡ 0 + length a = omega (arith, w.place) in
    record {
      buffer = second ∙ (λ i. over (w.buffer i) (place i) b) ∙ over_over t 0 a b (omega arith);
      place = omega (arith, length-append a b);
    }

-- A string written at the front of a part of the buffer.
pub over_part : (t : List ℕ) (k : ℕ) (s : List ℕ) → k + length s ≤ length t → take k t ++ over (drop k t) 0 s ≡ over t k s
over_part t k s fits =
    rw (zero-add (length s), drop-drop (length s) k t) (sym (append_assoc (take k t) s (drop (k + length s) t)))

-- A text that is written over by one of at least its length.
over_anew :
    (t : List ℕ) (at : ℕ) (old s : List ℕ) → length old ≤ length s → at + length s ≤ length t → over (over t at old) at s ≡ over t at s
over_anew t at old s hidden fits =
    let n = at + length old in
    let p = take at t ++ old in
    let k = length s - length old in
    let front : length (take at t) ≡ at = length-take-le at t (omega arith) in
    let size : length p ≡ n = omega (arith, length-append (take at t) old) in
    let head : take at (over t at old) ≡ take at t =
    ap (take at) (append_assoc (take at t) old (drop n t)) ∙ take_at (take at t) (old ++ drop n t) at front in
    let count : at + length s ≡ length p + k = omega arith in
    let end : n + k ≡ at + length s = omega arith in
    let tail : drop (at + length s) (over t at old) ≡ drop (at + length s) t =
    ap (λ (m : ℕ). drop m (p ++ drop n t)) count ∙ drop-append-add p (drop n t) k ∙ drop-drop k n t ∙ ap (λ (m : ℕ). drop m t) end in
    λ i. head i ++ s ++ tail i

-- A text whose end is written over.
pub over_end : (t : List ℕ) (at : ℕ) (a old s : List ℕ) → length old ≤ length s → at + length a + length s ≤ length t
    → over (over t at (a ++ old)) (at + length a) s ≡ over t at (a ++ s)
over_end t at a old s hidden fits =
    ap (λ (x : List ℕ). over x (at + length a) s) (sym (over_over t at a old (omega arith)))
    ∙ over_anew (over t at a) (at + length a) old s hidden (omega (arith, length_over t at a (omega arith)))
    ∙ over_over t at a s (omega arith)
