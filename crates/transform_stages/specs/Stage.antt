-- What the parts of the transform promise each other.
use Rattle.std.specs.Prelude.{◌≡◌, ℕ, ◌+◌, ◌*◌, ◌/◌, ◌%◌, ◌^◌, ◌<◌, ◌≤◌, List, slice_index}
use Rattle.simd.specs.Basic.{sum}
use Rattle.simd.specs.Expansion.{power}

-- Value k of the transform, by the root 41^e, of the l numbers a(q), a(q + m), a(q + 2 m), ..
unfoldable pub part : (ℕ → ℕ) → ℕ → ℕ → ℕ → ℕ → ℕ → ℕ
part a e m l k q = sum l (λ t. a (q + m * t) * power 41 (e * (k * t)))

-- The list x holds a level: at the place of (k, q) stands a number that is value k of part q modulo 257.
pub record Level (a : ℕ → ℕ) (e m l : ℕ) (at : ℕ → ℕ → ℕ) (x : List ℕ) : Type 0 where
  pub value : (k q : ℕ) → k < l → q < m → slice_index x (at k q) % 257 ≡ part a e m l k q % 257

-- Each of the first n numbers lies between two bounds.
abbrev pub Within : ℕ → ℕ → ℕ → List ℕ → Type 0
Within n low high x = (i : ℕ) → i < n → (low ≤ slice_index x i) × (slice_index x i ≤ high)

-- A butterfly: modulo 257 u is x + f y and v is x - f y, and neither is further than 512 from x.
pub record Butterfly (x f y u v : ℕ) : Type 0 where
  pub plus : u % 257 ≡ (x + f * y) % 257
  pub minus : v % 257 ≡ (x + 256 * (f * y)) % 257
  pub plus_bound : (x ≤ u) × (u ≤ x + 512)
  pub minus_bound : (x ≤ v + 512) × (v ≤ x)

-- The first n butterflies of a stage are done, counted by value and then by place: butterfly b is that of value b % l at place b / l.
pub record Crossed (l half n : ℕ) (x t y : List ℕ) : Type 0 where
  pub here : (b : ℕ) → b < n
      → Butterfly (slice_index x b) (slice_index t (l + b % l)) (slice_index x (half + b)) (slice_index y (b + b / l * l)) (slice_index y (b + b / l * l + l))

-- Butterflies have led from the level of l values in x to the level of 2 l values in y, by the root 41^(2^j) of order 2 l. In both the values
-- of a place stand side by side.
pub record Leads (l m : ℕ) (x y : List ℕ) : Type 0 where
  pub next : (a : ℕ → ℕ) (j : ℕ) → 2 ^ j * l ≡ 128
      → Level a (2 * 2 ^ j) (2 * m) l (λ k q. q * l + k) x → Level a (2 ^ j) m (2 * l) (λ k q. q * (2 * l) + k) y

-- The n numbers of y lie within any bounds of those of x, widened by 512 on both sides.
pub record Spreads (n : ℕ) (x y : List ℕ) : Type 0 where
  pub within : (low high : ℕ) → Within n (low + 512) high x → Within n low (high + 512) y

-- y has the first n places of the two halves of x, place by place in turn.
pub record Shuffled (half n : ℕ) (x y : List ℕ) : Type 0 where
  pub even : (i : ℕ) → i < n → slice_index y (2 * i) ≡ slice_index x i
  pub odd : (i : ℕ) → i < n → slice_index y (2 * i + 1) ≡ slice_index x (half + i)

-- At the first n places out has the remainder of x.
pub record Begun (n : ℕ) (x out : List ℕ) : Type 0 where
  pub remainder : (i : ℕ) → i < n → slice_index out i ≡ slice_index x i % 257
