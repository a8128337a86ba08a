-- Laws of refusals: one for each way out of a check.
use mathlib.Core.Bool.{Bool, true, false, cond, ◌||◌}
use mathlib.Core.List.{List}
use mathlib.Core.Path.{◌≡◌, refl, sym, ap, ◌∙◌}
use Prim.Native.Nat.{ℕ, suc, ◌+◌, ◌/◌, ◌%◌, ◌-◌, ◌<◌, ◌≤◌}
use native.Mathlib.Omega.{arith}
use native.Mathlib.Decide.{ℕ_discrete}
use borrow.Author.Tests.{le-leb, lt-leb, eq-eqb, ne_eqb, eqb-true, eqb-false}
use lib.Dec.{leb, eqb}
use lib.ListN.{length, take, drop}
use Rattle.simd.specs.Basic.{Family, family_of, is_width, block_bytes, block_bits, state_words}
use Rattle.bits.specs.Zero.{clear}
use Rattle.bits.proofs.Parts.{back}
use Rattle.form.specs.Head.{form_width, form_bits, head_bytes}
use Rattle.form.specs.Size.{old_form_bytes, current}
use Rattle.form.proofs.Current.{current_same, old_size, current_long, current_width, current_rest, at_least}
use Rattle.hash_parts.specs.Form.{form_bytes, form_family, restore_refusal}

-- Words of a state of 16 R bytes.
pub quarter : (f : Family) (size : ℕ) → size ≡ block_bytes f → size / 4 ≡ state_words f
quarter f size same = omega arith

-- The ways out of the check of a hash and an output.
module _ (legal : Bool) (needed room : ℕ) where
  pub illegal : legal ≡ false → ◌≡◌ {A = ℕ} 5 (cond legal (cond (leb needed room) 0 6) 5)
  illegal bad = rw bad

  pub room_fits : legal ≡ true → needed ≤ room → ◌≡◌ {A = ℕ} 0 (cond legal (cond (leb needed room) 0 6) 5)
  room_fits good within = rw (good, le-leb needed room within)

  pub room_short : legal ≡ true → room < needed → ◌≡◌ {A = ℕ} 6 (cond legal (cond (leb needed room) 0 6) 5)
  room_short good short = rw (good, lt-leb needed room short)

-- Whether a form has one of the two sizes.
abbrev either : Family → ℕ → Bool
either f n = eqb n (form_bytes f) || eqb n (old_form_bytes f)

-- A form has one of the two sizes where the form that it stands for has that of today.
or_false : (b : Bool) → (b || false) ≡ b
or_false true = refl
or_false false = refl

told : (form : List ℕ) → either (form_family form) (length form) ≡ eqb (length (current form)) (form_bytes (form_family form))
told form =
    let f = form_family form in
    elim (ℕ_discrete (length form) (old_form_bytes f)) [
      | yes old ↦
          rw (
            ne_eqb (length form) (form_bytes f) (λ full. omega arith),
            eq-eqb (length form) (old_form_bytes f) old,
            eq-eqb (length (current form)) (form_bytes f) (old_size form old),
          )
      | no other ↦ rw (current_same form other, ne_eqb (length form) (old_form_bytes f) other) (or_false (eqb (length form) (form_bytes f)))
    ]

pub size_told : (form : List ℕ) (width : ℕ) → width ≡ form_width form
    → either (family_of width) (length form) ≡ eqb (length (current form)) (form_bytes (family_of width))
size_told form width same = rw same (told form)

-- The ways out of the check of a form.
module _ (form : List ℕ) where
  pub form_short : length form < 2 → 8 ≡ restore_refusal form
  unfolding restore_refusal
  form_short short = rw (lt-leb 2 (length form) short)

  module _ (long : 2 ≤ length form) (width : ℕ) (same : width ≡ form_width form) where
    pub form_unknown : is_width width ≡ false → 1 ≡ restore_refusal form
    unfolding restore_refusal
    form_unknown unknown = rw (le-leb 2 (length form) long, ← same, unknown)

    module _ (known : is_width width ≡ true) where
      pub form_size : (length form ≡ form_bytes (family_of width) → ⊥) → 8 ≡ restore_refusal form
      unfolding restore_refusal
      form_size other = rw (le-leb 2 (length form) long, ← same, known, ne_eqb (length form) (form_bytes (family_of width)) other)

      pub form_decides : (block : List ℕ) (used : ℕ) → block ≡ drop (head_bytes + block_bytes (family_of width)) form
          → used ≡ form_bits form % block_bits (family_of width) → length form ≡ form_bytes (family_of width)
          → cond (clear used block) 0 9 ≡ restore_refusal form
      unfolding restore_refusal
      form_decides block used last left size =
          rw (le-leb 2 (length form) long, ← same, known, eq-eqb (length form) (form_bytes (family_of width)) size, last, left)

-- The same of a form that stands for another, its `current` one: the facts about its width, its size and its last bits are those that the tests have.
module _ (form : List ℕ) {width : ℕ} (same : width ≡ form_width form) where
  -- The width is that of the form stood for.
  pub named : width ≡ form_width (current form)
  named = same ∙ sym (current_width form)

  module _ {b : Bool} (test : b ≡ either (family_of width) (length form)) where
    pub size_right : b ≡ true → length (current form) ≡ form_bytes (family_of width)
    size_right good = eqb-true _ _ (sym (size_told form width same) ∙ sym test ∙ good)

    pub size_wrong : b ≡ false → length (current form) ≡ form_bytes (family_of width) → ⊥
    size_wrong bad = eqb-false _ _ (sym (size_told form width same) ∙ sym test ∙ bad)

    pub size_whole : b ≡ true → length (current form) ≡ form_bytes (form_family form)
    size_whole good = rw (← same) (size_right good)

  module _ {size : ℕ} (sized : size ≡ block_bytes (family_of width)) where
    pub block_whole : size ≡ block_bytes (form_family form)
    block_whole = rw (← same) sized

    pub tail_told : 2 ≤ length form → is_width width ≡ true → length (current form) ≡ form_bytes (family_of width)
        → {bits used : ℕ} {b : Bool} → bits ≡ form_bits (current form) → used ≡ bits % block_bits (family_of width)
        → b ≡ clear used (take (length form - (length form - size)) (drop (length form - size) form))
        → cond b 0 9 ≡ restore_refusal (current form)
    tail_told long known whole {used = used} counted last told =
        let whole' : length (current form) ≡ form_bytes (form_family form) = rw (← same) whole in
        let behind =
        back (length form - size) form
        ∙ current_rest form whole' (block_bytes (form_family form)) (length form - size) (omega (arith, block_whole, at_least form whole'))
        ∙ ap (λ (n : ℕ). drop (head_bytes + block_bytes (family_of n)) (current form)) (sym same) in
        ap (λ (c : Bool). cond c 0 9) told
        ∙ form_decides (current form) (current_long form long) width named known _ used behind
        (last ∙ ap (λ (n : ℕ). n % block_bits (family_of width)) counted) whole

-- What is not refused has passed each test.
pub passed : (test : Bool) (x n : ℕ) → cond test x (suc n) ≡ 0 → (test ≡ true) × (x ≡ 0)
passed true x n e = (refl, e)
passed false x n e = absurd (omega arith)
