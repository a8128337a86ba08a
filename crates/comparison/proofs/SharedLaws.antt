-- Laws of the leading blocks that are full and equal in both messages.
use mathlib.Core.Bool.{Bool, true}
use mathlib.Core.List.{List, ◌++◌}
use mathlib.Core.Path.{◌≡◌, refl, sym, ◌∙◌}
use Prim.Native.Nat.{ℕ, ◌+◌, ◌*◌, ◌-◌, ◌/◌, ◌%◌, ◌≤◌, min}
use native.Mathlib.Omega.{arith}
use lib.ListN.{take, drop}
use lib.Seq.{take-add}
use Rattle.simd.specs.Basic.{Family, small, large, block_bytes}
use Rattle.simd.specs.Message.{bits_of, message}
use Rattle.hash.proofs.Splitting.{message_split}
use Rattle.pairs.specs.declared.Message.{Message}
use Rattle.pairs.specs.Messages.{bits_in}
use Rattle.pairs.specs.Lists.{equal}
use Rattle.pairs.proofs.ListLaws.{equal_true, equal_behind}
use Rattle.comparison.specs.Shared.{Shared}

-- None, and one more.
none_whole : (f : Family) → 0 % block_bytes f ≡ 0
none_whole small = refl
none_whole large = refl

one_more : (f : Family) (n size : ℕ) → size ≡ block_bytes f → n % block_bytes f ≡ 0 → (n + size) % block_bytes f ≡ 0
one_more small n size e h = omega arith
one_more large n size e h = omega arith

pub one_byte : (f : Family) → 1 ≤ block_bytes f
one_byte small = omega arith
one_byte large = omega arith

module _ (f : Family) {x y : Message} where
  pub shared_none : Shared f x y 0
  shared_none = record { blocks = none_whole f; first = omega arith; second = omega arith; front = refl }

  pub shared_more : {k size end : ℕ} {p q : List ℕ} {r : Bool} → size ≡ block_bytes f → end ≡ min (x.bits / 8) (y.bits / 8) → size ≤ end - k → k ≤ end
      → Shared f x y k → p ≡ take (k + size - k) (drop k x.bytes.now) → q ≡ take (k + size - k) (drop k y.bytes.now) → r ≡ equal p q → r ≡ true
      → Shared f x y (k + size)
  shared_more {k} {size} {end} {p} {q} sized ends low within s ex ey test same =
      let whole : k + size - k ≡ size = omega arith in
      let first : p ≡ take size (drop k x.bytes.now) = ex ∙ rw whole in
      let second : q ≡ take size (drop k y.bytes.now) = ey ∙ rw whole in
      record {
        blocks = one_more f k size sized s.blocks;
        first = omega arith;
        second = omega arith;
        front =
            take-add k size x.bytes.now ∙ (λ i. s.front i ++ (sym first ∙ equal_true p q (sym test ∙ same) ∙ second) i)
            ∙ sym (take-add k size y.bytes.now);
      }

  -- Messages of one length with equal first bytes are equal exactly where the bits behind these are.
  pub rest_decides : {k n : ℕ} {p q : List ℕ} {r : Bool} → x.bits ≡ y.bits → Shared f x y k → p ≡ drop k x.bytes.now → q ≡ drop k y.bytes.now
      → n ≡ x.bits - 8 * k → r ≡ equal (message p n) (message q n) → r ≡ equal (bits_in x) (bits_in y)
  rest_decides {k} {n} {p} {q} same s ep eq en test =
      let front = bits_of (take k x.bytes.now) in
      let first : bits_in x ≡ front ++ message p n =
      message_split x.bytes.now x.bits k x.within s.first ∙ (λ i. front ++ message (sym ep i) (sym en i)) in
      let there : n ≡ y.bits - 8 * k = omega arith in
      let second : bits_in y ≡ front ++ message q n =
      message_split y.bytes.now y.bits k y.within s.second ∙ (λ i. bits_of (sym s.front i) ++ message (sym eq i) (sym there i)) in
      test ∙ sym (equal_behind front (message p n) (message q n)) ∙ rw (first, second)
