-- What a whole stage of butterflies does.
use Rattle.std.proofs.Common.{◌≡◌, ℕ, zero, suc, ◌+◌, ◌-◌, ◌*◌, ◌/◌, ◌%◌, ◌^◌, ◌<◌, ◌≤◌, List, get_or, sym, ap, ◌∙◌, subst, mul-le-mul_right, mod-lt, suc-mul, div-lt_iff_lt-mul, pow-suc, lt_of_not-le, mul-zero, div-add-mod', arith, pow_pos}
use native.Mathlib.Decide.{dec_lt}
use lib.Arith.{digits_div, digits_mod}
use Rattle.simd.specs.Expansion.{power}
use Rattle.transform_stages.specs.Stage.{Leads, Spreads, Butterfly, Crossed}
use Rattle.transform_tables.specs.Roots.{Roots}
use Rattle.transform_stages.proofs.Level.{halves, next}

-- One place more is still within the whole.
pub one_more : (q m l : ℕ) → q < m → q * l + l ≤ m * l
one_more q m l h = omega (arith, mul-le-mul_right l h, suc-mul q l)

-- What holds at each place a s + b holds at all n s places.
pub everywhere : (P : ℕ → Type 0) (n s : ℕ) → ((a b : ℕ) → a < n → b < s → P (a * s + b)) → (p : ℕ) → p < n * s → P p
everywhere P n zero all p h = absurd (omega (arith, mul-zero n))
everywhere P n (suc s) all p h =
    subst P (div-add-mod' p (suc s)) (all (p / suc s) (p % suc s) ((div-lt_iff_lt-mul {k = suc s} (omega arith)).1 h) (mod-lt p (omega arith)))

-- The row of factors of order 2 l.
module _ (t : List ℕ) (roots : Roots t) where
  doubled : (j n : ℕ) → 2 ^ suc j * n ≡ 2 ^ j * (2 * n)
  doubled j n = omega (arith, ap (λ v. v * n) (pow-suc 2 j))

  fits : (j l : ℕ) → 2 ^ suc j * l ≡ 128 → 2 * l ≤ 128
  fits j l order = omega (arith, doubled j l, mul-le-mul_right (2 * l) (pow_pos j))

  root_at : (j l k : ℕ) → 2 ^ j * l ≡ 128 → k < l → get_or t (l + k) 0 ≡ power 41 (2 ^ j * k)
  root_at zero l k order h =
      let whole : l ≡ 128 = omega arith in
      ap (λ v. get_or t (v + k) 0) whole ∙ roots.last_row k (omega arith) ∙ ap (power 41) (omega arith)
  root_at (suc j) l k order h =
      let half = fits j l order in
      roots.each_row (l + k) (omega arith) (omega arith)
      ∙ ap (λ v. get_or t v 0) (omega arith)
      ∙ root_at j (2 * l) (2 * k) (sym (doubled j l) ∙ order) (omega arith)
      ∙ ap (power 41) (sym (doubled j k))

-- Of two butterflies b before i, with n from i on in one row: both places of b lie before those of i, or its second one behind the n.
before_run : (b i n l q r q' r' : ℕ) → q * l + r ≡ b → q' * l + r' ≡ i → r < l → r' + n ≤ l → b < i
    → (b + q * l < i + q' * l) × (i + q' * l ≤ b + q * l + l → i + q' * l + n ≤ b + q * l + l)
before_run b i n l q r q' r' eb ei hr hn below =
    elim (dec_lt q q') [
      | yes less ↦
          let rows = one_more q q' l less in
          (omega arith, (λ from. omega arith))
      | no not-less ↦ elim (dec_lt q' q) [
        | yes more ↦
            let rows = one_more q' q l more in
            absurd (omega arith)
        | no not_more ↦
            let same = ap (λ v. v * l) {x = q} {y = q'} (omega (arith, lt_of_not-le not-less, lt_of_not-le not_more)) in
            (omega arith, (λ from. omega arith))
      ]
    ]

module _ (x t : List ℕ) (l half : ℕ) where
  -- A run of n butterflies from i on, all of one place.
  module _ (i n : ℕ) (run : i % l + n ≤ l) where
    abbrev row : ℕ
    row = i / l * l

    one_place : (k : ℕ) → k < n → ((i + k) / l ≡ i / l) × ((i + k) % l ≡ i % l + k)
    one_place k h =
        let split : i + k ≡ row + (i % l + k) = omega (arith, div-add-mod' i l) in
        (ap (λ v. v / l) split ∙ digits_div (i / l) (omega arith), ap (λ v. v % l) split ∙ digits_mod (i / l) (omega arith))

    module _ (y y' : List ℕ) (done : Crossed l half i x t y)
        (made : (k : ℕ) → k < n
        → Butterfly (get_or x (i + k) 0) (get_or t (l + (i - row) + k) 0) (get_or x (i + half + k) 0) (get_or y' (i + row + k) 0) (get_or y' (i + row + l + k) 0))
        (others : (p : ℕ) → (i + row ≤ p → i + row + n ≤ p) → (i + row + l ≤ p → i + row + l + n ≤ p) → get_or y' p 0 ≡ get_or y p 0) where
      here : (k : ℕ) → k < n
          → Butterfly (get_or x (i + k) 0) (get_or t (l + (i + k) % l) 0) (get_or x (half + (i + k)) 0) (get_or y' (i + k + (i + k) / l * l) 0)
          (get_or y' (i + k + (i + k) / l * l + l) 0)
      here k h =
          let place = one_place k h in
          let same = ap (λ v. v * l) place.0 in
          let factor : l + (i - row) + k ≡ l + (i + k) % l = omega (arith, place.1, div-add-mod' i l) in
          let other : i + half + k ≡ half + (i + k) = omega arith in
          let low : i + row + k ≡ i + k + (i + k) / l * l = omega (arith, same) in
          let high : i + row + l + k ≡ i + k + (i + k) / l * l + l = omega (arith, same) in
          rw (← factor, ← other, ← high, ← low) (made k h)

      -- The places of an earlier butterfly are not touched.
      kept : (b : ℕ) → b < i → 0 < l → (get_or y' (b + b / l * l) 0 ≡ get_or y (b + b / l * l) 0) × (get_or y' (b + b / l * l + l) 0 ≡ get_or y (b + b / l * l + l) 0)
      kept b below some =
          let apart = before_run b i n l (b / l) (b % l) (i / l) (i % l) (div-add-mod' b l) (div-add-mod' i l) (mod-lt b some) run below in (
            others _ (λ from. omega (arith, apart.0)) (λ from. omega (arith, apart.0)),
            others _ (λ from. apart.1 from) (λ from. omega (arith, apart.0)),
          )

      pub crossed_more : 0 < n → Crossed l half (i + n) x t y'
      crossed_more some =
          record {
            here =
                λ b h.
                elim (dec_lt b i) [
                  | yes below ↦
                      let same = kept b below (omega arith) in
                      rw (same.1, same.0) (done.here b below)
                  | no past ↦
                      subst
                      (λ b. Butterfly (get_or x b 0) (get_or t (l + b % l) 0) (get_or x (half + b) 0) (get_or y' (b + b / l * l) 0) (get_or y' (b + b / l * l + l) 0))
                      (omega arith) (here (b - i) (omega arith))
                ];
          }

  -- A whole stage.
  module _ (y : List ℕ) (roots : Roots t) (some : 0 < l) (whole : half % l ≡ 0) (done : Crossed l half half x t y) where
    abbrev m : ℕ
    m = half / l

    size : m * l ≡ half
    size = omega (arith, div-add-mod' half l)

    by_value : (k q : ℕ) → k < l → q < m
        → Butterfly (get_or x (q * l + k) 0) (get_or t (l + k) 0) (get_or x ((q + m) * l + k) 0) (get_or y (q * (2 * l) + k) 0) (get_or y (q * (2 * l) + (k + l)) 0)
    by_value k q hk hq =
        let b : ℕ = q * l + k in
        let inside : b < half = omega (arith, one_more q m l hq, size) in
        let factor : l + b % l ≡ l + k = ap (λ v. l + v) (digits_mod q hk) in
        let other : half + b ≡ (q + m) * l + k = omega (arith, size) in
        let row = ap (λ v. v * l) (digits_div q hk) in
        let low : b + b / l * l ≡ q * (2 * l) + k = omega (arith, row) in
        let high : b + b / l * l + l ≡ q * (2 * l) + (k + l) = omega (arith, row) in
        rw (← factor, ← other, ← low, ← high) (done.here b inside)

    spread : (low high : ℕ) → ((k q : ℕ) → k < l → q < m → (low + 512 ≤ get_or x (q * l + k) 0) × (get_or x (q * l + k) 0 ≤ high))
        → (k q : ℕ) → k < 2 * l → q < m → (low ≤ get_or y (q * (2 * l) + k) 0) × (get_or y (q * (2 * l) + k) 0 ≤ high + 512)
    spread low high before k q hk hq =
        halves (λ k. (low ≤ get_or y (q * (2 * l) + k) 0) × (get_or y (q * (2 * l) + k) 0 ≤ high + 512)) l
        (λ k h.
        let bound = (by_value k q h hq).plus_bound in
        let from = before k q h hq in
        (omega arith, omega arith))
        (λ k h.
        let bound = (by_value k q h hq).minus_bound in
        let from = before k q h hq in
        (omega arith, omega arith))
        k hk

    pub rows_lead : Leads l m x y × Spreads (2 * half) x y
    rows_lead = (
      record {
        next =
            λ a j order level.
            next a (2 ^ j) m l order (λ k q. q * l + k) (λ k q. q * (2 * l) + k) x y level
            (λ k q hk hq.
            subst
            (λ f. Butterfly (get_or x (q * l + k) 0) f (get_or x ((q + m) * l + k) 0) (get_or y (q * (2 * l) + k) 0) (get_or y (q * (2 * l) + (k + l)) 0))
            (root_at t roots j l k order hk) (by_value k q hk hq));
      },
      record {
        within =
            λ low high before.
            let after = spread low high (λ k q hk hq. before (q * l + k) (omega (arith, one_more q m l hq, size))) in
            λ p h.
            everywhere (λ p. (low ≤ get_or y p 0) × (get_or y p 0 ≤ high + 512)) m (2 * l) (λ q k hq hk. after k q hk hq) p (omega (arith, size));
      },
    )
