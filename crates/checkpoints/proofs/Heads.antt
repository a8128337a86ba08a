-- When an index fits a width and a length, and what stays so where its head does.
use mathlib.Core.Bool.{true, ◌&&◌}
use mathlib.Core.List.{List}
use mathlib.Core.Path.{◌≡◌, sym, ap, ◌∙◌}
use Prim.Native.Nat.{ℕ, ◌+◌, ◌*◌, ◌^◌, ◌≤◌}
use native.Mathlib.Omega.{arith}
use borrow.Author.Tests.{eqb-true, eq-eqb}
use lib.Dec.{eqb, lit≤}
use lib.ListN.{length, get_or, take, drop}
use lib.Seq.{get_or-take, get_or-drop}
use Rattle.laws.proofs.Sum.{sum_ext}
use Rattle.bits.proofs.Zeros.{and_left, and_right}
use Rattle.little_endian.specs.Numbers.{number}
use Rattle.form.specs.Head.{length_bytes, head_bytes, form_width, form_bits}
use Rattle.checkpoints.specs.Index.{index_bytes}
use Rattle.checkpoints.specs.Calls.{fits}

-- Numbers within the first k bytes, where two byte strings have these in common.
same_number : (at n k : ℕ) (x y : List ℕ) → at + n ≤ k → take k x ≡ take k y → number n (drop at x) ≡ number n (drop at y)
unfolding number
same_number at n k x y within same =
    sum_ext n (λ t. get_or (drop at x) t 0 * 256 ^ t) (λ t. get_or (drop at y) t 0 * 256 ^ t)
    (λ t below.
    let front : (l : List ℕ) → get_or (drop at l) t 0 ≡ get_or (take k l) (at + t) 0 =
    λ l. get_or-drop at l t 0 ∙ sym (get_or-take k l (at + t) 0 (omega arith)) in
    ap (λ (b : ℕ). b * 256 ^ t) (front x ∙ ap (λ (l : List ℕ). get_or l (at + t) 0) same ∙ sym (front y)))

-- The three tests of an index.
pub record Fit (width n : ℕ) (index : List ℕ) : Type 0 where
  pub size : length index ≡ index_bytes width n
  pub width_read : form_width index ≡ width
  pub bits_read : form_bits index ≡ n

module _ {width n : ℕ} {index : List ℕ} where
  pub fit : fits width n index ≡ true → Fit width n index
  unfolding fits
  fit all =
      let sized = eqb (length index) (index_bytes width n) in
      let wide = eqb (form_width index) width in
      let long = eqb (form_bits index) n in
      let both = and_right sized (wide && long) all in
      record {
        size = eqb-true (length index) (index_bytes width n) (and_left sized (wide && long) all);
        width_read = eqb-true (form_width index) width (and_left wide long both);
        bits_read = eqb-true (form_bits index) n (and_right wide long both);
      }

  pub fit_passes : Fit width n index → fits width n index ≡ true
  unfolding fits
  fit_passes x =
      rw (
        eq-eqb (length index) (index_bytes width n) x.size,
        eq-eqb (form_width index) width x.width_read,
        eq-eqb (form_bits index) n x.bits_read,
      )

-- An index of the same size and with the same head fits too.
pub fit_again : {width n : ℕ} {old new : List ℕ} → Fit width n old → length new ≡ length old → take head_bytes new ≡ take head_bytes old → Fit width n new
unfolding form_width form_bits
fit_again {width} {n} {old} {new} x size same =
    record {
      size = size ∙ x.size;
      width_read = same_number 0 2 head_bytes new old (lit≤ tt) same ∙ x.width_read;
      bits_read = same_number 2 length_bytes head_bytes new old (lit≤ tt) same ∙ x.bits_read;
    }
