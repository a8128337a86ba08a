-- The distances of the expansion: 520 bits (small) and 1,032 bits (large).
-- Different blocks differ at 16 R + 1 points of the transform at least, and each such point costs 4 bits under each of the two codes.
use mathlib.Core.Bool.{Bool}
use mathlib.Core.List.{List}
use mathlib.Core.Logic.{◌≢◌}
use mathlib.Core.Path.{◌≡◌, refl, sym, ap, ◌∙◌}
use Prim.Native.Nat.{ℕ, ◌+◌, ◌*◌, ◌%◌, ◌<◌, ◌≤◌}
use native.Mathlib.Nat.{lt_of_not-le, mod-lt}
use native.Mathlib.Decide.{ℕ_discrete}
use native.Mathlib.Omega.{arith}
use lib.Dec.{lit<}
use lib.ListN.{get_or}
use lib.Seq.{ext_get_or}
use Rattle.simd.specs.Basic.{Family, small, large, rows, block_bytes, points, sum}
use Rattle.simd.specs.Constants.{root}
use Rattle.simd.specs.Expansion.{power, added, transform, code, expanded}
use Rattle.laws.proofs.Field.{Same, same_trans, same_of, power_lt, power_mul}
use Rattle.laws.proofs.Sum.{sum_ext, sum_scale}
use Rattle.laws.proofs.Regroup.{sum_le}
use Rattle.laws.proofs.Roots.{eval, eval_plus, eval_sum, few_roots, roots_differ}
use Rattle.distance.specs.Apart.{Block, differ, apart, bits_apart, least_apart}
use Rattle.distance.specs.Layers.{points_apart, row_of_z, expanded_from, first_code, second_code}
use Rattle.distance.proofs.Bits.{differ_same, differ_other, differ_zero}
use Rattle.distance.proofs.Codes.{first_distance, second_distance}
use Rattle.distance.proofs.Matrix.{bits_by_codes}

-- A point at which the values differ costs 4 bits of each code.
four : (c : ℕ) → ((y z : ℕ) → y < 257 → z < 257 → y ≢ z → 4 ≤ apart 16 (code c y) (code c z))
    → (y z : ℕ) → y < 257 → z < 257 → 4 * differ y z ≤ apart 16 (code c y) (code c z)
four c far y z h k =
    elim (ℕ_discrete y z) [
      | yes e ↦ omega (arith, differ_same y z e)
      | no d ↦ omega (arith, differ_other y z d, far y z h k d)
    ]

-- Values that differ at d points give expanded blocks that are at least 8 d bits apart.
pub bits_of_points : (f : Family) (y z : ℕ → ℕ) → ((k : ℕ) → k < points f → y k < 257) → ((k : ℕ) → k < points f → z k < 257)
    → 8 * points_apart f y z ≤ bits_apart f (expanded_from f y) (expanded_from f z)
unfolding points_apart
bits_of_points f y z h k =
    let d : ℕ → ℕ = λ i. differ (y i) (z i) in
    let scale = sum_scale 4 (points f) d in
    let first = sum_le (points f) (λ i. 4 * d i) (λ i. apart 16 (code first_code (y i)) (code first_code (z i)))
    (λ i l. four first_code first_distance (y i) (z i) (h i l) (k i l)) in
    let second = sum_le (points f) (λ i. 4 * d i) (λ i. apart 16 (code second_code (y i)) (code second_code (z i)))
    (λ i l. four second_code second_distance (y i) (z i) (h i l) (k i l)) in
    omega (arith, bits_by_codes f y z)

-- The transform is the value at w^i of the polynomial whose coefficients are the bytes, plus a number that goes by i only.
polynomial : (n : ℕ) (c : ℕ → ℕ) (w i : ℕ) → Same (sum n (λ j. c j * power w (i * j))) (eval n c (power w i))
polynomial n c w i = same_trans (same_of (sum_ext n _ _ (λ j below. ap (λ v. c j * v) (power_mul w i j)))) (eval_sum n c (power w i))

module _ (f : Family) (last : Bool) (a b : List ℕ) where
  -- The coefficients of the difference, minus 1 being 256.
  difference : ℕ → ℕ
  difference j = get_or a j 0 + 256 * get_or b j 0

  root_at : (i : ℕ) → transform f last a i ≡ transform f last b i → eval (block_bytes f) difference (power (root f) i) % 257 ≡ 0
  unfolding transform difference
  root_at i e =
      let x : ℕ = power (root f) i in
      let n : ℕ = block_bytes f in
      let pa = polynomial n (λ j. get_or a j 0) (root f) i in
      let pb = polynomial n (λ j. get_or b j 0) (root f) i in
      let both = eval_plus n (λ j. get_or a j 0) (λ j. get_or b j 0) 256 x in
      omega (arith, pa.same, pb.same, both, e)

  same_blocks : Block f a → Block f b → ((j : ℕ) → j < block_bytes f → difference j % 257 ≡ 0) → a ≡ b
  unfolding difference
  same_blocks p q vanish =
      ext_get_or 0 a b (p.size ∙ sym q.size)
      (λ j below.
      let h : j < block_bytes f = omega (arith, p.size) in
      omega (arith, vanish j h, p.bytes j h, q.bytes j h))

  -- Two polynomials of degree below 16 R that agree at 16 R of the 32 R points are equal, so different blocks differ at 16 R + 1 points.
  pub points_apart_lem : Block f a → Block f b → a ≢ b → 16 * rows f + 1 ≤ points_apart f (transform f last a) (transform f last b)
  unfolding points_apart
  points_apart_lem p q d =
      let count : ℕ = sum (points f) (λ i. differ (transform f last a i) (transform f last b i)) in
      let more : 16 * rows f < count =
      lt_of_not-le
      (λ (few : count ≤ 16 * rows f).
      d
      (same_blocks p q
      (few_roots (points f) (power (root f)) (λ i below. power_lt (root f) i) (roots_differ f) (block_bytes f) difference
      (λ i. differ (transform f last a i) (transform f last b i))
      (λ i below z. root_at i (differ_zero (transform f last a i) (transform f last b i) z)) (omega arith)))) in
      omega arith

-- A value of the transform is a residue.
transform_lt : (f : Family) (last : Bool) (b : List ℕ) (i : ℕ) → transform f last b i < 257
unfolding transform
transform_lt f last b i = mod-lt (sum (block_bytes f) (λ j. get_or b j 0 * power (root f) (i * j)) + added f last i) (lit< tt)

least : (f : Family) → least_apart f ≤ 8 * (16 * rows f + 1)
least small = omega arith
least large = omega arith

pub expanded_from_lem : (f : Family) (last : Bool) (b : List ℕ) → expanded f last b ≡ expanded_from f (transform f last b)
unfolding expanded expanded_from row_of_z
expanded_from_lem f last b = refl

-- The expansions of two different blocks, both as message or both as length, are at least so many bits apart.
pub distances : (f : Family) (last : Bool) (a b : List ℕ) → Block f a → Block f b → a ≢ b
    → least_apart f ≤ bits_apart f (expanded f last a) (expanded f last b)
distances f last a b p q d =
    rw (expanded_from_lem f last a, expanded_from_lem f last b)
    (omega (
      arith,
      least f,
      points_apart_lem f last a b p q d,
      bits_of_points f (transform f last a) (transform f last b) (λ k below. transform_lt f last a k) (λ k below. transform_lt f last b k),
    ))
