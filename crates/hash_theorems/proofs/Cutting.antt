-- A message cut into pieces that are fed one after the other: to an open hash, to a keyed one, or to the stored form of either. Said once for
-- whatever is fed: where one piece of a message does what its bits do, and bits one after the other what they do joined, any cutting does what the
-- message does.
use mathlib.Core.List.{List, [], ◌∷◌, ◌++◌}
use mathlib.Core.Path.{◌≡◌, sym}
use Prim.Native.Nat.{ℕ, ◌+◌}
use native.Mathlib.Omega.{arith}
use lib.ListN.{length, length-append}
use Rattle.simd.specs.Message.{message}
use Rattle.laws.proofs.Bits.{Bits, bits_append}
use Rattle.hash.proofs.Feeding.{Whole, length_message, bits_message}

-- A cutting: pieces, and the message that they make.
pub record Piece : Type 0 where
  pub bytes : List ℕ
  pub count : ℕ

unfoldable pub joined : List Piece → List ℕ
joined [] = []
joined (p ∷ ps) = message p.bytes p.count ++ joined ps

-- Every piece has its count within its bytes. What stands past the count is no part of it.
abbrev pub Wholes : List Piece → Type 0
Wholes [] = Unit {0}
Wholes (p ∷ ps) = Whole p.bytes p.count × Wholes ps

pub bits_joined : (ps : List Piece) → Bits (joined ps)
unfolding joined
bits_joined [] = λ i. omega arith
bits_joined (p ∷ ps) = bits_append (message p.bytes p.count) (joined ps) (bits_message p.bytes p.count) (bits_joined ps)

-- The answer to a piece: what was fed, as it is afterwards, the blocks compressed and the refusal. The answer to all pieces has the sums of blocks
-- and refusals, so that a refusal of 0 says that no piece was refused.
pub record Answer (S : Type 0) : Type 0 where
  pub left : S
  pub blocks : ℕ
  pub refusal : ℕ

unfoldable pub in_turn : {S : Type 0} → (S → Piece → Answer S) → S → List Piece → Answer S
in_turn feed s [] = record { left = s; blocks = 0; refusal = 0 }
in_turn feed s (p ∷ ps) =
    let once = feed s p in
    let rest = in_turn feed once.left ps in
    record { left = rest.left; blocks = once.blocks + rest.blocks; refusal = once.refusal + rest.refusal }

-- S is what is fed, H the hash that it stands for. `Ready h n` is that h can be fed n bits.
pub record Feeding {H S : Type 0} (form : H → S) (feed : S → Piece → Answer S) (after : H → List ℕ → H) (count : H → ℕ → ℕ)
    (Ready : H → ℕ → Type 0) : Type 0 where
  pub once : (h : H) (p : Piece) → Whole p.bytes p.count → Ready h p.count
      → feed (form h) p
      ≡ record {
        left = form (after h (message p.bytes p.count));
        blocks = count h (length (message p.bytes p.count));
        refusal = 0;
      }
  pub fewer : (h : H) (m n : ℕ) → Ready h (m + n) → Ready h m
  pub ready : (h : H) (m : List ℕ) (n : ℕ) → Bits m → Ready h (length m + n) → Ready (after h m) n
  pub none : (h : H) → Ready h 0 → (after h [] ≡ h) × (count h 0 ≡ 0)
  pub joins : (h : H) (m n : List ℕ) → Bits m → Ready h (length m + length n)
      → (after (after h m) n ≡ after h (m ++ n)) × (count h (length m) + count (after h m) (length n) ≡ count h (length (m ++ n)))

pub all_joined : {H S : Type 0} {form : H → S} {feed : S → Piece → Answer S} {after : H → List ℕ → H} {count : H → ℕ → ℕ} {Ready : H → ℕ → Type 0}
    → Feeding form feed after count Ready → (h : H) (ps : List Piece) → Wholes ps → Ready h (length (joined ps))
    → in_turn feed (form h) ps ≡ record { left = form (after h (joined ps)); blocks = count h (length (joined ps)); refusal = 0 }
unfolding in_turn joined
all_joined {H} {S} {form} {feed} {after} {count} {Ready} laws h [] whole fit =
    let same = laws.none h fit in
    λ i. record { left = form (sym same.0 i); blocks = sym same.1 i; refusal = 0 }
all_joined {H} {S} {form} {feed} {after} {count} {Ready} laws h (p ∷ ps) whole fit =
    let m = message p.bytes p.count in
    let size = length_message p.bytes p.count whole.0 in
    let bit = bits_message p.bytes p.count in
    let all : Ready h (length m + length (joined ps)) = rw (sym (length-append m (joined ps))) fit in
    let first : Ready h p.count = rw (sym size) (laws.fewer h (length m) (length (joined ps)) all) in
    let once = laws.once h p whole.0 first in
    let rest = all_joined laws (after h m) ps whole.1 (laws.ready h m (length (joined ps)) bit all) in
    let both = laws.joins h m (joined ps) bit all in
    rw (once, rest) (λ i. record { left = form (both.0 i); blocks = both.1 i; refusal = 0 })
