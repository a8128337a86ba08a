-- Forms of the old size: what of them stands where in the forms that they stand for.
use mathlib.Core.List.{List, ◌++◌, append_assoc}
use mathlib.Core.Path.{◌≡◌, sym, ap, ◌∙◌}
use mathlib.Core.Logic.{◌⊎◌, inl, inr}
use Prim.Native.Nat.{ℕ, ◌+◌, ◌*◌, ◌-◌, ◌/◌, ◌^◌, ◌<◌, ◌≤◌}
use native.Mathlib.Omega.{arith}
use native.Mathlib.Decide.{ℕ_discrete}
use borrow.Author.Tests.{eq-eqb, ne_eqb}
use lib.Dec.{lit<}
use lib.ListN.{length, get_or, take, drop, length-take, length-drop, length-append, get_or-append}
use lib.Seq.{get_or-take, get_or-drop, drop_at, drop-drop}
use Rattle.simd.specs.Basic.{Family, small, large, family_of, block_bytes, state_words, words_of, table, sum}
use Rattle.laws.proofs.Bounds.{below_append, below_take, below_table}
use Rattle.laws.proofs.Sum.{sum_ext}
use Rattle.laws.proofs.Table.{length_table}
use Rattle.little_endian.specs.Numbers.{number}
use Rattle.little_endian.proofs.Writing.{read_eight}
use Rattle.form.specs.Head.{head_bytes, form_width, form_bits}
use Rattle.form.specs.Size.{form_bytes, form_family, old_head_bytes, old_form_bytes, widened, current}

-- A form that has the bytes of an old head.
module _ (form : List ℕ) (long : old_head_bytes ≤ length form) where
  -- The bytes before those that are put in, and with them.
  abbrev front : List ℕ
  front = take old_head_bytes form

  abbrev zeros : List ℕ
  zeros = table (head_bytes - old_head_bytes) (λ _. 0)

  front_size : length front ≡ old_head_bytes
  front_size = omega (arith, length-take old_head_bytes form)

  widened_head : length (front ++ zeros) ≡ head_bytes
  widened_head = omega (arith, length-append front zeros, front_size, length_table {A = ℕ} (head_bytes - old_head_bytes) (λ _. 0))

  pub widened_size : length (widened form) ≡ length form + (head_bytes - old_head_bytes)
  unfolding widened
  widened_size = omega (arith, length-append (front ++ zeros) (drop old_head_bytes form), widened_head, length-drop old_head_bytes form)

  pub widened_rest : (k : ℕ) → drop (head_bytes + k) (widened form) ≡ drop (old_head_bytes + k) form
  unfolding widened
  widened_rest k =
      sym (drop-drop k head_bytes (front ++ zeros ++ drop old_head_bytes form))
      ∙ ap (drop k) (drop_at (front ++ zeros) (drop old_head_bytes form) head_bytes widened_head)
      ∙ drop-drop k old_head_bytes form

  widened_byte : (i : ℕ) → i < old_head_bytes → get_or (widened form) i 0 ≡ get_or form i 0
  unfolding widened
  widened_byte i below =
      rw (append_assoc front zeros (drop old_head_bytes form))
      (get_or-append front (zeros ++ drop old_head_bytes form) 0 i (omega (arith, front_size)) ∙ get_or-take old_head_bytes form i 0 below)

  pub widened_width : form_width (widened form) ≡ form_width form
  unfolding form_width number
  widened_width =
      sum_ext 2 (λ t. get_or (widened form) t 0 * 256 ^ t) (λ t. get_or form t 0 * 256 ^ t)
      (λ t below. ap (λ (b : ℕ). b * 256 ^ t) (widened_byte t (omega arith)))

  low_word : number 4 (drop 2 form) ≡ number 4 (drop 2 (widened form))
  unfolding number
  low_word =
      sum_ext 4 (λ t. get_or (drop 2 form) t 0 * 256 ^ t) (λ t. get_or (drop 2 (widened form)) t 0 * 256 ^ t)
      (λ t below.
      ap (λ (b : ℕ). b * 256 ^ t)
      (get_or-drop 2 form t 0 ∙ sym (widened_byte (2 + t) (omega arith)) ∙ sym (get_or-drop 2 (widened form) t 0)))

  high_word : 0 ≡ number 4 (drop (2 + 4) (widened form))
  unfolding number sum widened table
  high_word =
      rw (
        append_assoc front zeros (drop old_head_bytes form),
        drop_at front (zeros ++ drop old_head_bytes form) old_head_bytes front_size,
      )

  pub widened_bits : number 4 (drop 2 form) ≡ form_bits (widened form)
  unfolding form_bits
  widened_bits =
      let whole = read_eight (widened form) 2 (number 4 (drop 2 form)) 0 low_word high_word in
      omega (arith, whole)

  pub widened_fits : ((i : ℕ) → get_or form i 0 < 256) → (i : ℕ) → get_or (widened form) i 0 < 256
  unfolding widened
  widened_fits fits =
      below_append 256 (front ++ zeros) (drop old_head_bytes form)
      (below_append 256 front zeros (below_take 256 old_head_bytes form fits) (below_table 256 (head_bytes - old_head_bytes) (λ _. 0) (λ _. lit< tt)))
      (λ i. rw get_or-drop (fits (old_head_bytes + i)))

-- An old form is told by its size, and one of today stands for itself.
module _ (form : List ℕ) where
  abbrev f : Family
  f = form_family form

  pub current_old : length form ≡ old_form_bytes f → current form ≡ widened form
  unfolding current
  current_old old = rw (eq-eqb (length form) (old_form_bytes f) old)

  pub current_same : (length form ≡ old_form_bytes f → ⊥) → current form ≡ form
  unfolding current
  current_same other = rw (ne_eqb (length form) (old_form_bytes f) other)

  pub current_today : length form ≡ form_bytes f → current form ≡ form
  current_today size = current_same (λ old. omega arith)

  pub current_short : length form < 2 → length (current form) < 2
  current_short short = rw (current_same (λ old. omega arith)) short

  pub current_long : 2 ≤ length form → 2 ≤ length (current form)
  current_long long = elim (ℕ_discrete (length form) (old_form_bytes f)) [
    | yes old ↦ omega (arith, ap length (current_old old), widened_size form (omega arith))
    | no other ↦ omega (arith, ap length (current_same other))
  ]

  pub current_width : form_width (current form) ≡ form_width form
  current_width = elim (ℕ_discrete (length form) (old_form_bytes f)) [
    | yes old ↦ ap form_width (current_old old) ∙ widened_width form (omega arith)
    | no other ↦ ap form_width (current_same other)
  ]

  pub current_fits : ((i : ℕ) → get_or form i 0 < 256) → (i : ℕ) → get_or (current form) i 0 < 256
  current_fits fits = elim (ℕ_discrete (length form) (old_form_bytes f)) [
    | yes old ↦ rw (current_old old) (widened_fits form (omega arith) fits)
    | no other ↦ rw (current_same other) fits
  ]

  -- The two sizes.
  pub two_sizes : length (current form) ≡ form_bytes f → (length form ≡ old_form_bytes f) ⊎ (length form ≡ form_bytes f)
  two_sizes size = elim (ℕ_discrete (length form) (old_form_bytes f)) [
    | yes old ↦ inl old
    | no other ↦ inr (sym (ap length (current_same other)) ∙ size)
  ]

  pub old_size : length form ≡ old_form_bytes f → length (current form) ≡ form_bytes f
  old_size old = ap length (current_old old) ∙ omega (arith, widened_size form (omega arith))

  pub today_size : length form ≡ form_bytes f → length (current form) ≡ form_bytes f
  today_size size = ap length (current_today size) ∙ size

  -- Behind the head both have the same bytes, which end at the same place before the end.
  pub current_rest : length (current form) ≡ form_bytes f → (k place : ℕ) → place + 2 * block_bytes f ≡ length form + k
      → drop place form ≡ drop (head_bytes + k) (current form)
  current_rest size k place there = elim (two_sizes size) [
    | inl old ↦
        let here : place ≡ old_head_bytes + k = omega arith in
        ap (λ (n : ℕ). drop n form) here ∙ sym (widened_rest form (omega arith) k) ∙ ap (drop (head_bytes + k)) (sym (current_old old))
    | inr today ↦
        let here : place ≡ head_bytes + k = omega arith in
        ap (λ (n : ℕ). drop n form) here ∙ ap (drop (head_bytes + k)) (sym (current_today today))
  ]

  pub at_least : length (current form) ≡ form_bytes f → old_form_bytes f ≤ length form
  at_least size = elim (two_sizes size) [ inl old ↦ omega arith | inr today ↦ omega arith ]

  -- The bit length of the shorter one and of the longer.
  pub shorter_bits : length (current form) ≡ form_bytes f → length form < form_bytes f → number 4 (drop 2 form) ≡ form_bits (current form)
  shorter_bits size short = elim (two_sizes size) [
    | inl old ↦ widened_bits form (omega arith) ∙ ap form_bits (sym (current_old old))
    | inr today ↦ absurd (omega arith)
  ]

  pub longer_bits : length (current form) ≡ form_bytes f → form_bytes f ≤ length form → form_bits form ≡ form_bits (current form)
  longer_bits size full = elim (two_sizes size) [
    | inl old ↦ absurd (omega arith)
    | inr today ↦ ap form_bits (sym (current_today today))
  ]

  -- The state and the tail, where a block has so many bytes, and so many stand before the last two.
  module _ (size head : ℕ) (block : size ≡ block_bytes f) (whole : length (current form) ≡ form_bytes f) (before : head ≡ length form - 2 * size) where
    pub state_read : words_of (size / 4) (drop head form) ≡ words_of (state_words f) (drop head_bytes (current form))
    state_read =
        let words : size / 4 ≡ state_words f = omega arith in
        let rest = current_rest whole 0 head (omega (arith, at_least whole)) in
        λ i. words_of (words i) (rest i)

    pub tail_read : drop (head + size) form ≡ drop (head_bytes + block_bytes f) (current form)
    tail_read = current_rest whole (block_bytes f) (head + size) (omega (arith, at_least whole))

-- A head of the old size with blocks behind it is as long as no head of today with blocks behind it, whatever the families are.
pub old_sizes : (f g : Family) (j k : ℕ) → old_head_bytes + block_bytes f * j ≡ head_bytes + block_bytes g * k → ⊥
old_sizes small small j k same = omega arith
old_sizes small large j k same = omega arith
old_sizes large small j k same = omega arith
old_sizes large large j k same = omega arith

-- A widened form is one of today.
pub current_widened : (form : List ℕ) → length form ≡ old_form_bytes (form_family form) → current (widened form) ≡ widened form
current_widened form old =
    let long : old_head_bytes ≤ length form = omega arith in
    let size : length (widened form) ≡ form_bytes (form_family form) = omega (arith, widened_size form long) in
    current_today (widened form) (size ∙ ap (λ (w : ℕ). form_bytes (family_of w)) (sym (widened_width form long)))

-- What a form stands for stands for itself.
pub current_current : (form : List ℕ) → current (current form) ≡ current form
current_current form = elim (ℕ_discrete (length form) (old_form_bytes (form_family form))) [
  | yes old ↦ rw (current_old form old) (current_widened form old)
  | no other ↦ ap current (current_same form other)
]
