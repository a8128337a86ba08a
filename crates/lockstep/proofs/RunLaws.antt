-- Laws of the run: one block compressed leads from the state of its number to that of the next one below; the pairs are compared before that; and
-- the smallest number so far at which they differ is the last one found.
use mathlib.Core.Bool.{Bool, true, false, cond, not, ◌&&◌}
use mathlib.Core.List.{List}
use mathlib.Core.Path.{◌≡◌, sym, ap, ◌∙◌}
use Prim.Native.Nat.{ℕ, zero, suc, ◌+◌, ◌*◌, ◌-◌, ◌<◌, ◌≤◌}
use native.Mathlib.Decide.{dec_lt}
use native.Mathlib.Omega.{arith}
use lib.ListN.{length, get_or, take, get_or-eq_default}
use Rattle.simd.specs.Basic.{Family, small, large, family_of, is_width, block_bytes, state_words, table}
use Rattle.simd.specs.Constants.{start}
use Rattle.simd.specs.Message.{bits_of, byte_of, message, block, message_blocks}
use Rattle.simd.specs.Hash.{chain}
use Rattle.simd.specs.Steps.{compression}
use Rattle.laws.proofs.Bits.{Bits, byte_bits_of, byte_lt}
use Rattle.laws.proofs.Table.{length_table, get_d_table, table_of}
use Rattle.iteration.specs.Blocks.{absorbed}
use Rattle.bits.specs.Zero.{padded}
use Rattle.bits.proofs.Zeros.{take_padded}
use Rattle.tail.proofs.Sizes.{bytes_within, words_within, chain_length}
use Rattle.hash.proofs.Feeding.{length_message, bits_message, start_length}
use Rattle.pairs.specs.declared.Message.{Message}
use Rattle.pairs.specs.Lists.{least}
use Rattle.pairs.specs.Pairs.{state_at, block_at, unlike, differ_at}
use Rattle.pairs.proofs.PairLaws.{first_state, out_of_message}
use Rattle.pairs.proofs.PaddedLaws.{equal_padded}
use Rattle.lockstep.specs.Lockstep.{Both}
use Rattle.lockstep.proofs.BlockLaws.{length_block_lem}

-- A number of blocks and one more fit 64 bits.
pub few : (f : Family) (n : ℕ) → 2 * message_blocks f n ≤ n + 1
unfolding message_blocks
few small n = omega arith
few large n = omega arith

-- Fewer blocks are both messages' too.
pub fewer : {width : ℕ} {a b : Message} {j k : ℕ} → Both width a b k → j ≤ k → Both width a b j
fewer both less = record { known = both.known; first = omega (arith, both.first); second = omega (arith, both.second) }

-- A block's own bytes, read as a byte string of one block.
one_block : (f : Family) (s b : List ℕ) → length b ≡ block_bytes f → ((j : ℕ) → get_or b j 0 < 256) → absorbed f s b 1 ≡ compression f false s b
unfolding chain block
one_block f s b size fits =
    ap (compression f false s)
    (sym (table_of 0 (block_bytes f) _ b size (λ j _. sym (ap (byte_of (bits_of b)) (omega arith) ∙ byte_bits_of b j (fits j)))))

block_bytes_lem : (f : Family) (m : List ℕ) (k : ℕ) → Bits m → (j : ℕ) → get_or (block f m k) j 0 < 256
unfolding block
block_bytes_lem f m k bits j =
    let bytes : ℕ → ℕ = λ i. byte_of m (block_bytes f * k + i) in
    elim (dec_lt j (block_bytes f)) [
      | yes low ↦ rw (get_d_table (block_bytes f) bytes j 0 low) (byte_lt m (block_bytes f * k + j) bits)
      | no past ↦
          let none = get_or-eq_default (table (block_bytes f) bytes) 0 {n = j} (omega (arith, past, length_table (block_bytes f) bytes)) in
          omega (arith, none)
    ]

module _ (width : ℕ) (known : is_width width ≡ true) where
  abbrev f : Family
  f = family_of width

  abbrev from : List ℕ
  from = start width

  pub length_state : (m : List ℕ) (k : ℕ) → length (state_at f from m k) ≡ state_words f
  unfolding state_at
  length_state m k = chain_length f from m (message_blocks f (length m) - k) (start_length width known)

  module _ (bytes : List ℕ) (n : ℕ) (within : n ≤ 8 * length bytes) where
    abbrev m : List ℕ
    m = message bytes n

    -- No block is compressed.
    pub none_less : {number : ℕ} {s : List ℕ} → number ≡ message_blocks f n → s ≡ padded 32 from → s ≡ padded 32 (state_at f from m number)
    none_less {number} all before =
        let first : message_blocks f (length m) ≡ number = ap (message_blocks f) (length_message bytes n within) ∙ sym all in
        before ∙ ap (padded 32) (sym (first_state f from m) ∙ ap (state_at f from m) first)

    -- One block compressed, from the state that goes into it.
    pub one_less : (number : ℕ) {s x new : List ℕ} → 1 ≤ number → number ≤ message_blocks f n
        → s ≡ padded 32 (state_at f from m number) → x ≡ padded 128 (block_at f m number)
        → new ≡ padded 32 (absorbed f (take (state_words f) s) (take (block_bytes f) x) 1) → new ≡ padded 32 (state_at f from m (number - 1))
    unfolding block_at
    one_less zero one has before made absorbs = absurd (omega arith)
    one_less (suc i) {s} {x} one has before made absorbs =
        let k = message_blocks f (length m) - suc i in
        let words : take (state_words f) s ≡ state_at f from m (suc i) =
        ap (take (state_words f)) before ∙ take_padded 32 (state_words f) _ (length_state m (suc i)) (words_within f) in
        let own : take (block_bytes f) x ≡ block f m k =
        ap (take (block_bytes f)) made ∙ take_padded 128 (block_bytes f) _ (length_block_lem f m k) (bytes_within f) in
        let last : i ≡ suc i - 1 = omega arith in
        let all : message_blocks f (length m) ≡ message_blocks f n = ap (message_blocks f) (length_message bytes n within) in
        absorbs ∙ rw (words, own)
        (ap (padded 32)
        (one_block f (state_at f from m (suc i)) (block f m k) (length_block_lem f m k) (block_bytes_lem f m k (bits_message bytes n))
        ∙ out_of_message f from m i (omega arith) ∙ ap (state_at f from m) last))

  -- Pairs with zeros behind differ exactly where those without do.
  pub pairs_differ : (m n : List ℕ) (number : ℕ) {s x t y : List ℕ} {r : Bool} → 1 ≤ number
      → s ≡ padded 32 (state_at f from m number) → x ≡ padded 128 (block_at f m number)
      → t ≡ padded 32 (state_at f from n number) → y ≡ padded 128 (block_at f n number) → r ≡ unlike s x t y → r ≡ differ_at f from m n number
  unfolding differ_at unlike block_at
  pairs_differ m n zero one es ex et ey test = absurd (omega arith)
  pairs_differ m n (suc i) one es ex et ey test =
      let k = message_blocks f (length m) - suc i in
      let l = message_blocks f (length n) - suc i in
      let states = equal_padded 32 (state_words f) (state_at f from m (suc i)) (state_at f from n (suc i)) (length_state m (suc i)) (length_state n (suc i))
      (words_within f) in
      let blocks = equal_padded 128 (block_bytes f) (block f m k) (block f n l) (length_block_lem f m k) (length_block_lem f n l) (bytes_within f) in
      test ∙ rw (es, et, ex, ey) (λ i. not (states i && blocks i))

-- The smallest of the numbers up to `common` so far at which p is true: none is passed, one more is, all are.
module _ (p : ℕ → Bool) (common : ℕ) where
  pub search_none : common + 1 ≡ least p (common - common) (suc common)
  unfolding least
  search_none =
      let none : common - common ≡ 0 = omega arith in
      rw none (omega arith)

  module _ {number met : ℕ} (one : 1 ≤ number) (within : number ≤ common) (so_far : met ≡ least p (common - number) (suc number)) where
    next : cond (p number) number met ≡ least p (common - (number - 1)) (suc (number - 1))
    unfolding least
    next =
        let more : common - (number - 1) ≡ suc (common - number) = omega arith in
        let here : suc (number - 1) ≡ number = omega arith in
        rw (more, here) (ap (cond (p number) number) so_far)

    pub search_hit : {r : Bool} {met' : ℕ} → r ≡ p number → r ≡ true → met' ≡ number
        → met' ≡ least p (common - (number - 1)) (suc (number - 1))
    search_hit test hit found =
        let true_there : p number ≡ true = sym test ∙ hit in
        found ∙ rw true_there at next

    pub search_miss : {r : Bool} {met' : ℕ} → r ≡ p number → r ≡ false → met' ≡ met
        → met' ≡ least p (common - (number - 1)) (suc (number - 1))
    search_miss test miss kept =
        let false_there : p number ≡ false = sym test ∙ miss in
        kept ∙ rw false_there at next

  pub search_all : {number met : ℕ} → number ≡ 0 → met ≡ least p (common - number) (suc number) → met ≡ least p common 1
  search_all none so_far =
      let all : common - 0 ≡ common = omega arith in
      so_far ∙ rw (none, all)
