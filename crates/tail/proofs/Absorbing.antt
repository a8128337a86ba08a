-- Laws of whole blocks compressed from a byte string.
use mathlib.Core.Bool.{true}
use mathlib.Core.List.{List, ◌++◌}
use mathlib.Core.Path.{◌≡◌, refl, sym, ap, ◌∙◌}
use Prim.Native.Nat.{ℕ, ◌+◌, ◌*◌, ◌<◌}
use native.Mathlib.Omega.{arith}
use lib.ListN.{length, get_or, take, drop, length-take, length-append}
use lib.Seq.{take_all, take-append_seam, drop-append_seam}
use Rattle.simd.specs.Basic.{Family, large, block_bytes, block_bits, state_words}
use Rattle.simd.specs.Message.{bits_of, byte_of}
use Rattle.simd.specs.Steps.{compression}
use Rattle.simd.specs.Hash.{chain}
use Rattle.iteration.specs.Blocks.{absorbed}
use Rattle.laws.proofs.Table.{table_of}
use Rattle.laws.proofs.Bits.{byte_bits_of}
use Rattle.laws.proofs.Chain.{length_compression, byte_drop, chain_ext, chain_add}
use Rattle.bits.specs.Zero.{padded, all_zero}
use Rattle.bits.proofs.Zeros.{length_padded, take_padded, padded_take}
use Rattle.tail.proofs.Sizes.{words_within, chain_length}

pub padded_whole : (n : ℕ) (xs : List ℕ) → length xs ≡ n → padded n xs ≡ xs
unfolding padded
padded_whole n xs long = sym (table_of 0 n (λ i. get_or xs i 0) xs long (λ i _. refl))

-- The small family's state in the first 16 words, with zeros behind.
pub widened : (xs zeros : List ℕ) → length xs ≡ 16 → length zeros ≡ 16 → all_zero zeros ≡ true → xs ++ zeros ≡ padded 32 xs
widened xs zeros size rest-size zero =
    let front : take 16 (xs ++ zeros) ≡ xs = ap (λ n. take n (xs ++ zeros)) (sym size) ∙ take-append_seam xs zeros in
    let rest : drop 16 (xs ++ zeros) ≡ zeros = ap (λ n. drop n (xs ++ zeros)) (sym size) ∙ drop-append_seam xs zeros in
    sym (padded_take 32 16 (xs ++ zeros) (simp length-append (omega arith)) (rw rest zero)) ∙ ap (padded 32) front

-- The large family's state is all 32 words.
pub whole_absorbed : (s bytes : List ℕ) (k : ℕ) → length s ≡ 32 → padded 32 (absorbed large (take 32 s) bytes k) ≡ absorbed large s bytes k
whole_absorbed s bytes k long =
    rw (take_all 32 s (omega arith)) (padded_whole 32 (absorbed large s bytes k) (chain_length large s (bits_of bytes) k long))

pub whole_concluded : (s m : List ℕ) (k : ℕ) (last : List ℕ) → length s ≡ 32
    → padded 32 (compression large true (chain large (take 32 s) m k) last) ≡ compression large true (chain large s m k) last
whole_concluded s m k last long =
    let s' = compression large true (chain large s m k) last in
    rw (take_all 32 s (omega arith)) (padded_whole 32 s' (length_compression large true (chain large s m k) last))

-- Blocks of a message, from its block c on.
pub absorbed_chain : (f : Family) (s m x : List ℕ) (c k : ℕ) → ((i : ℕ) → get_or x i 0 < 256)
    → ((i : ℕ) → i < block_bytes f * k → get_or x i 0 ≡ byte_of m (block_bytes f * c + i))
    → absorbed f (chain f s m c) x k ≡ chain f s m (c + k)
absorbed_chain f s m x c k fits same =
    chain_ext f (chain f s m c) (bits_of x) (drop (block_bits f * c) m) k
    (λ i below. byte_bits_of x i (fits i) ∙ same i below ∙ sym (byte_drop m (block_bytes f * c) (block_bits f * c) i (omega arith)))
    ∙ sym (chain_add f s m c k)

-- Blocks compressed further on: the bytes X are those of T from block j on.
pub absorbed_on : (f : Family) (s t x : List ℕ) (j k : ℕ) → ((i : ℕ) → get_or t i 0 < 256) → ((i : ℕ) → get_or x i 0 < 256)
    → ((i : ℕ) → i < block_bytes f * k → get_or x i 0 ≡ get_or t (block_bytes f * j + i) 0)
    → absorbed f (absorbed f s t j) x k ≡ absorbed f s t (j + k)
absorbed_on f s t x j k fits-t fits same =
    absorbed_chain f s (bits_of t) x j k fits (λ i below. same i below ∙ sym (byte_bits_of t (block_bytes f * j + i) (fits-t (block_bytes f * j + i))))

-- The family's words of a state that is 0 past them.
pub length_prefix : (f : Family) (state : List ℕ) → state ≡ padded 32 (take (state_words f) state) → length (take (state_words f) state) ≡ state_words f
length_prefix f state fits =
    omega (arith, length-take (state_words f) state, ap length fits, length_padded 32 (take (state_words f) state), words_within f)

-- A state made of the family's words is 0 past them.
pub refit : (f : Family) (state words : List ℕ) → length words ≡ state_words f → state ≡ padded 32 words
    → state ≡ padded 32 (take (state_words f) state)
refit f state words long same =
    same ∙ ap (padded 32) (sym (ap (take (state_words f)) same ∙ take_padded 32 (state_words f) words long (words_within f)))
