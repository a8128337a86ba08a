-- From the first pass to the last level, and from that to the transform. The lists are those that the calls leave one after another.
use mathlib.Core.Bool.{Bool, cond}
use mathlib.Core.List.{List}
use mathlib.Core.Path.{◌≡◌, refl, sym, ap, ◌∙◌}
use Prim.Native.Nat.{ℕ, zero, suc, ◌+◌, ◌*◌, ◌-◌, ◌/◌, ◌%◌, ◌≤◌, ◌<◌}
use native.Mathlib.Nat.{add-zero, zero-mul, add-mul, mul_comm, mul-le-mul_left}
use native.Mathlib.Decide.{ℕ_discrete}
use native.Mathlib.Omega.{arith}
use lib.ListN.{length, get_or, get_or-eq_default}
use Rattle.simd.specs.Basic.{Family, block_bytes, points, table, sum}
use Rattle.simd.specs.Constants.{root}
use Rattle.simd.specs.Expansion.{power, added, transform}
use Rattle.laws.proofs.Sum.{sum_ext, sum_zero, sum_plus, sum_append}
use Rattle.laws.proofs.Table.{table_of}
use Rattle.transform_stages.specs.Stage.{part, Level, Within, Leads, Spreads, Shuffled}
use Rattle.radix_8.specs.Pass.{appended, held}
use Rattle.transform.proofs.Added.{ends_sum, held_numbers}

module _ {half : ℕ} {x y : List ℕ} (turns : Shuffled half half x y) where
  shuffled_at : (i s : ℕ) → i < half → s < 2 → get_or y (2 * i + s) 0 ≡ get_or x (i + half * s) 0
  shuffled_at i zero hi hs = ap (λ p. get_or y p 0) (omega arith) ∙ turns.even i hi ∙ ap (λ p. get_or x p 0) (omega arith)
  shuffled_at i (suc zero) hi hs = turns.odd i hi ∙ ap (λ p. get_or x p 0) (omega arith)
  shuffled_at i (suc (suc s)) hi hs = absurd (omega arith)

  -- A shuffle keeps bounds.
  shuffled_within : (low high : ℕ) → Within (2 * half) low high x → Within (2 * half) low high y
  shuffled_within low high before i h =
      elim (ℕ_discrete (i % 2) 0) [
        | yes even ↦
            let place : 2 * (i / 2) ≡ i = omega arith in
            let same = ap (λ p. get_or y p 0) place in
            let here = turns.even (i / 2) (omega arith) in
            let from = before (i / 2) (omega arith) in
            (omega arith, omega arith)
        | no odd ↦
            let place : 2 * (i / 2) + 1 ≡ i = omega arith in
            let same = ap (λ p. get_or y p 0) place in
            let here = turns.odd (i / 2) (omega arith) in
            let from = before (half + i / 2) (omega arith) in
            (omega arith, omega arith)
      ]

-- The bounds that a stage asks: three shuffles keep those of the first pass, and each stage widens them by 512.
module _ {half : ℕ} {x y z w : List ℕ} (first : Within (2 * half) 2570 45000 x) (xy : Shuffled half half x y) (yz : Shuffled half half y z)
    (zw : Shuffled half half z w) where
  abbrev n : ℕ
  n = 2 * half

  loosened : (low high : ℕ) (x : List ℕ) → Within n low high x → 512 ≤ low → high ≤ 60000 → Within (2 * half) 512 60000 x
  loosened low high x within from to i h = let here = within i h in (omega arith, omega arith)

  begun : Within n 2570 45000 w
  begun = shuffled_within zw 2570 45000 (shuffled_within yz 2570 45000 (shuffled_within xy 2570 45000 first))

  pub bounds_8 : Within (2 * half) 512 60000 w
  bounds_8 = loosened 2570 45000 w begun (omega arith) (omega arith)

  module _ {x₁₆ : List ℕ} (eight : Spreads n w x₁₆) where
    within_16 : Within n 2058 45512 x₁₆
    within_16 = eight.within 2058 45000 begun

    pub bounds_16 : Within (2 * half) 512 60000 x₁₆
    bounds_16 = loosened 2058 45512 x₁₆ within_16 (omega arith) (omega arith)

    module _ {x₃₂ : List ℕ} (sixteen : Spreads n x₁₆ x₃₂) where
      within_32 : Within n 1546 46024 x₃₂
      within_32 = sixteen.within 1546 45512 within_16

      pub bounds_32 : Within (2 * half) 512 60000 x₃₂
      bounds_32 = loosened 1546 46024 x₃₂ within_32 (omega arith) (omega arith)

      module _ {x₆₄ : List ℕ} (more : Spreads n x₃₂ x₆₄) where
        within_64 : Within n 1034 46536 x₆₄
        within_64 = more.within 1034 46024 within_32

        pub bounds_64 : Within (2 * half) 512 60000 x₆₄
        bounds_64 = loosened 1034 46536 x₆₄ within_64 (omega arith) (omega arith)

        pub bounds_128 : {x₁₂₈ : List ℕ} → Spreads n x₆₄ x₁₂₈ → Within (2 * half) 512 60000 x₁₂₈
        bounds_128 {x₁₂₈} most = loosened 522 47048 x₁₂₈ (most.within 522 46536 within_64) (omega arith) (omega arith)

-- Three times: the eight values of a place come side by side.
module _ (m half : ℕ) (whole : half ≡ 4 * m) {x y z w : List ℕ} (xy : Shuffled half half x y) (yz : Shuffled half half y z) (zw : Shuffled half half z w) where
  moved : (k q : ℕ) → k < 8 → q < m → get_or w (q * 8 + k) 0 ≡ get_or x (k * m + q) 0
  moved k q hk hq =
      let digits = ap (λ v. v * m) {x = k} {y = 4 * (k / 4) + 2 * (k / 2 % 2) + k % 2} (omega arith) in
      let first : m * (k % 2) ≤ m * 1 = mul-le-mul_left m (omega arith) in
      let second : m * (k / 2 % 2) ≤ m * 1 = mul-le-mul_left m (omega arith) in
      let half_first = ap (λ v. v * (k % 2)) whole in
      let half_second = ap (λ v. v * (k / 2 % 2)) whole in
      let half_third = ap (λ v. v * (k / 4)) whole in
      let in_z : ℕ = 2 * q + k / 4 + 2 * (m * (k % 2)) in
      let in_y : ℕ = q + m * (k % 2) + 2 * (m * (k / 2 % 2)) in
      ap (λ p. get_or w p 0) {x = q * 8 + k} {y = 2 * (4 * q + k / 2) + k % 2} (omega arith)
      ∙ shuffled_at zw (4 * q + k / 2) (k % 2) (omega arith) (omega arith)
      ∙ ap (λ p. get_or z p 0) {x = 4 * q + k / 2 + half * (k % 2)} {y = 2 * in_z + k / 2 % 2} (omega arith)
      ∙ shuffled_at yz in_z (k / 2 % 2) (omega arith) (omega arith)
      ∙ ap (λ p. get_or y p 0) {x = in_z + half * (k / 2 % 2)} {y = 2 * in_y + k / 4} (omega arith)
      ∙ shuffled_at xy in_y (k / 4) (omega arith) (omega arith)
      ∙ ap (λ p. get_or x p 0) (omega arith)

  pub rows_level : (a : ℕ → ℕ) (e : ℕ) → Level a e m 8 (λ k q. k * m + q) x → Level a e m 8 (λ k q. q * 8 + k) w
  rows_level a e level = record { value = λ k q hk hq. ap (λ v. v % 257) (moved k q hk hq) ∙ level.value k q hk hq }

-- Four stages, to 128 values at each of m places.
pub level_128 : (a : ℕ → ℕ) (m : ℕ) {x₈ x₁₆ x₃₂ x₆₄ x₁₂₈ : List ℕ} → Level a 32 (2 * (2 * (2 * (2 * m)))) 8 (λ k q. q * 8 + k) x₈
    → Leads 8 (2 * (2 * (2 * m))) x₈ x₁₆ → Leads 16 (2 * (2 * m)) x₁₆ x₃₂ → Leads 32 (2 * m) x₃₂ x₆₄ → Leads 64 m x₆₄ x₁₂₈
    → Level a 2 m 128 (λ k q. q * 128 + k) x₁₂₈
level_128 a m level eight sixteen more most =
    most.next a 1 refl (more.next a 2 refl (sixteen.next a 3 refl (eight.next a 4 refl level)))

-- The last level has one place: its values are those of the transform, the added constants by the ones behind the block.
module _ (f : Family) (last : Bool) (b ends : List ℕ) (e m half n : ℕ) (sizes : (block_bytes f ≡ half) × (length b ≡ half) × (n ≡ half + half) × (n ≡ points f))
    (eighths : (n ≡ 8 * m) × (3 ≤ m)) (roots : (k : ℕ) → power (root f) k ≡ power 41 (e * k))
    (right : (q : ℕ) → q < m → get_or ends q 0 ≡ appended m last q) where
  abbrev at : ℕ → ℕ → ℕ
  at i t = power (root f) (i * t)

  block_sum : (i : ℕ) → sum n (λ t. get_or b t 0 * at i t) ≡ sum (block_bytes f) (λ j. get_or b j 0 * at i j)
  block_sum i =
      let term : ℕ → ℕ = λ t. get_or b t 0 * at i t in
      let past = sum_zero half (λ t. term (half + t))
      (λ t below. ap (λ v. v * at i (half + t)) (get_or-eq_default b 0 {n = half + t} (omega arith)) ∙ zero-mul _) in
      ap (λ v. sum v term) sizes.2 ∙ sum_append half half term ∙ ap (λ v. sum half term + v) past ∙ add-zero _ ∙ ap (λ v. sum v term) (sym sizes.0)

  added_sum : (i : ℕ) → sum n (λ t. appended n last t * at i t) ≡ added f last i
  unfolding added
  added_sum i =
      ends_sum n (at i) last (omega arith)
      ∙ (λ s. power (root f) (mul_comm i (n - 1) s) + cond last (power (root f) (mul_comm i (n - 3) s)) 0)
      ∙ ap (λ v. power (root f) ((v - 1) * i) + cond last (power (root f) ((v - 3) * i)) 0) sizes.3

  number : (t : ℕ) → t < n → held m b ends (0 + 1 * t) ≡ get_or b t 0 + appended n last t
  number t h =
      ap (held m b ends) (omega arith) ∙ held_numbers m last b ends eighths.1 right t (omega arith)
      ∙ ap (λ v. get_or b t 0 + appended v last t) (sym eighths.0)

  whole_sum : (i : ℕ) → part (held m b ends) e 1 n i 0 ≡ sum (block_bytes f) (λ j. get_or b j 0 * at i j) + added f last i
  unfolding part
  whole_sum i =
      sum_ext n _ (λ t. get_or b t 0 * at i t + appended n last t * at i t)
      (λ t h. (λ s. number t h s * sym (roots (i * t)) s) ∙ add-mul (get_or b t 0) (appended n last t) (at i t))
      ∙ sum_plus n (λ t. get_or b t 0 * at i t) (λ t. appended n last t * at i t)
      ∙ (λ s. block_sum i s + added_sum i s)

  pub transformed : {y z : List ℕ} → Level (held m b ends) e 1 n (λ k q. q * n + k) y → length z ≡ n
      → ((i : ℕ) → i < n → get_or z i 0 ≡ get_or y i 0 % 257) → z ≡ table n (transform f last b)
  unfolding transform
  transformed {y} {z} level size remainders =
      table_of 0 n (transform f last b) z size
      (λ i h.
      remainders i h
      ∙ ap (λ p. get_or y p 0 % 257) (omega arith)
      ∙ level.value i 0 h (omega arith)
      ∙ ap (λ v. v % 257) (whole_sum i))
