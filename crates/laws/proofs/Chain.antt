-- Laws of blocks, of the chain of states through them, and of the numbers of blocks.
use mathlib.Core.Bool.{Bool, false}
use mathlib.Core.List.{List, [], ◌++◌}
use mathlib.Core.Path.{◌≡◌, refl, sym, ap, ◌∙◌}
use Prim.Native.Nat.{ℕ, zero, suc, ◌+◌, ◌*◌, ◌/◌, ◌%◌, ◌<◌, ◌≤◌}
use native.Mathlib.Nat.{add-zero, add-suc}
use native.Mathlib.Omega.{arith}
use lib.ListN.{length, get_or, drop, length-append}
use lib.Seq.{get_or-drop}
use Rattle.simd.specs.Basic.{Family, small, large, block_bytes, block_bits, state_words}
use Rattle.simd.specs.Message.{byte_of, block, message_blocks}
use Rattle.simd.specs.Steps.{State, step, steps, words, state, mixed, compression}
use Rattle.simd.specs.Hash.{chain}
use Rattle.laws.proofs.Table.{length_table, table_ext}
use Rattle.laws.proofs.Bits.{byte_ext, byte_append}

-- A compression gives 4 R words.
-- The columns C and D of a step are B and C of the state before.
three_steps : (f : Family) (i j k : ℕ) (u v w : List ℕ) (s : State) → length (words (step f k w (step f j v (step f i u s)))) ≡ state_words f
unfolding words step
three_steps f i j k u v w s = simp (length-append, length_table) (omega arith)

steps_length : (f : Family) (w : List (List ℕ)) (n : ℕ) (s : State) → length (words (steps f w (suc (suc (suc n))) s)) ≡ state_words f
unfolding steps
steps_length f w n s = three_steps f n (suc n) (suc (suc n)) (get_or w n []) (get_or w (suc n) []) (get_or w (suc (suc n)) []) (steps f w n s)

pub length_compression : (f : Family) (last : Bool) (old bytes : List ℕ) → length (compression f last old bytes) ≡ state_words f
unfolding compression
length_compression f last old bytes = steps_length f _ 33 (state f (mixed f old bytes))

-- Byte j of a list without its first a bytes.
pub byte_drop : (m : List ℕ) (a n j : ℕ) → n ≡ 8 * a → byte_of (drop n m) j ≡ byte_of m (a + j)
byte_drop m a n j whole =
    byte_ext (drop n m) m j (a + j)
    (λ t small.
    let place : n + (8 * j + t) ≡ 8 * (a + j) + t = omega arith in
    get_or-drop n m (8 * j + t) 0 ∙ ap (λ (i : ℕ). get_or m i 0) place)

-- Two messages whose first k blocks have the same bytes.
pub chain_ext : (f : Family) (s m n : List ℕ) (k : ℕ) → ((j : ℕ) → j < block_bytes f * k → byte_of m j ≡ byte_of n j) → chain f s m k ≡ chain f s n k
unfolding chain block
chain_ext f s m n zero e = refl
chain_ext f s m n (suc k) e =
    let before = chain_ext f s m n k (λ j below. e j (omega arith)) in
    let last =
    table_ext (block_bytes f) (λ j. byte_of m (block_bytes f * k + j)) (λ j. byte_of n (block_bytes f * k + j))
    (λ j below. e (block_bytes f * k + j) (omega arith)) in
    λ i. compression f false (before i) (last i)

-- A chain goes on from the state that it has reached.
pub chain_add : (f : Family) (s m : List ℕ) (j k : ℕ) → chain f s m (j + k) ≡ chain f (chain f s m j) (drop (block_bits f * j) m) k
unfolding chain block
chain_add f s m j zero = rw add-zero
chain_add f s m j (suc k) =
    let before = chain_add f s m j k in
    let last =
    table_ext (block_bytes f) (λ i. byte_of m (block_bytes f * (j + k) + i)) (λ i. byte_of (drop (block_bits f * j) m) (block_bytes f * k + i))
    (λ i _.
    let place : block_bytes f * (j + k) + i ≡ block_bytes f * j + (block_bytes f * k + i) = omega arith in
    rw place (sym (byte_drop m (block_bytes f * j) (block_bits f * j) (block_bytes f * k + i) (omega arith)))) in
    rw add-suc (λ i. compression f false (before i) (last i))

pub chain_append : (f : Family) (s m n : List ℕ) (k : ℕ) → block_bits f * k ≤ length m → chain f s (m ++ n) k ≡ chain f s m k
chain_append f s m n k within = chain_ext f s (m ++ n) m k (λ j below. byte_append m n j (omega arith))

-- n bits fill n / block size blocks, and the rest takes one more where it is not empty.
pub blocks_split : (f : Family) (n : ℕ) → message_blocks f n ≡ n / block_bits f + message_blocks f (n % block_bits f)
unfolding message_blocks
blocks_split small n = omega arith
blocks_split large n = omega arith
