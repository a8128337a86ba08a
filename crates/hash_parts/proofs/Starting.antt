-- The starting state of each width, in 32 words.
use mathlib.Core.Path.{◌≡◌, refl, sym}
use Prim.Native.Nat.{ℕ}
use borrow.Author.Tests.{eq-eqb, ne_eqb}
use Rattle.simd.specs.Constants.{start, start224, start256, start384, start512}
use Rattle.bits.specs.Zero.{padded}
use Rattle.tail.proofs.Absorbing.{padded_whole}

module _ (width : ℕ) where
  pub start_224 : width ≡ 224 → start224 ≡ start width
  unfolding start
  start_224 same = rw (eq-eqb width 224 same)

  module _ (not224 : width ≡ 224 → ⊥) where
    pub start_256 : width ≡ 256 → start256 ≡ start width
    unfolding start
    start_256 same = rw (ne_eqb width 224 not224, eq-eqb width 256 same)

    module _ (not256 : width ≡ 256 → ⊥) where
      pub start_384 : width ≡ 384 → start384 ≡ padded 32 (start width)
      unfolding start start384
      start_384 same =
          rw (ne_eqb width 224 not224, ne_eqb width 256 not256, eq-eqb width 384 same) (sym (padded_whole 32 start384 refl))

      pub start_512 : (width ≡ 384 → ⊥) → start512 ≡ padded 32 (start width)
      unfolding start start512
      start_512 not384 =
          rw (ne_eqb width 224 not224, ne_eqb width 256 not256, ne_eqb width 384 not384) (sym (padded_whole 32 start512 refl))
