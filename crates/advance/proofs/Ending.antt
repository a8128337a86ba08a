-- What stands past the last bit of a piece: no block that its bits make full has any of it, and the tail is cut before it.
use mathlib.Core.Bool.{true}
use mathlib.Core.List.{List, ◌++◌, append_assoc}
use mathlib.Core.Logic.{◌≢◌}
use mathlib.Core.Path.{◌≡◌, sym, ap, ◌∙◌}
use Prim.Native.Nat.{ℕ, ◌+◌, ◌*◌, ◌/◌, ◌%◌, ◌<◌}
use native.Mathlib.Omega.{arith}
use native.Mathlib.Decide.{dec_lt, ℕ_discrete}
use lib.ListN.{length, get_or, take, drop, length-append, length-take, length-drop, take-append-drop, get_or-append, get_or-eq_default}
use lib.Seq.{take_all, get_or-take, get_or-drop}
use Rattle.simd.specs.Basic.{Family, small, large, family_of, block_bits, table}
use Rattle.simd.specs.Message.{bits_of, byte_of, message}
use Rattle.simd.specs.Hash.{chain}
use Rattle.laws.proofs.Table.{length_table, get_d_table, table_ext}
use Rattle.laws.proofs.Bits.{Bits, byte_ext, byte_past, bits_append, bits_take, bits_drop, bits_bits_of, bits_of_bytes, length_bits_of, get_d_take_past}
use Rattle.laws.proofs.Chain.{chain_append}
use Rattle.bits.specs.Zero.{all_zero, padded}
use Rattle.bits.proofs.Zeros.{zero_past}
use Rattle.tail.proofs.Sizes.{used_within}
use Rattle.advance.specs.Joined.{Ready, joined_bits, Joins}
use Rattle.advance.proofs.Advancing.{block_small}

full_and_left : (f : Family) (n : ℕ) → block_bits f * (n / block_bits f) + n % block_bits f ≡ n
full_and_left small n = omega arith
full_and_left large n = omega arith

pub none_full : (f : Family) (n : ℕ) → n / block_bits f ≡ 0 → n ≡ n % block_bits f
none_full small n none = omega arith
none_full large n none = omega arith

pub numbered : {width used : ℕ} {state tail src : List ℕ} {n k : ℕ} {state' tail' : List ℕ} {r r' : ℕ} → r ≡ r'
    → Joins width used state tail src n k state' tail' r → Joins width used state tail src n k state' tail' r'
numbered same joins = record { compressed = joins.compressed; left = joins.left; number = sym same ∙ joins.number }

module _ {width used : ℕ} {state tail src : List ℕ} {count : ℕ} (ready : Ready width used state tail src count) where
  abbrev f : Family
  f = family_of width

  -- All bits of the source, and those that count; of the latter, the full blocks and the bits left.
  abbrev all : List ℕ
  all = joined_bits used tail src (8 * length src)

  abbrev fed : List ℕ
  fed = joined_bits used tail src count

  abbrev blocks : ℕ
  blocks = (used + count) / block_bits f

  abbrev left : ℕ
  left = (used + count) % block_bits f

  source_bits : length (bits_of src) ≡ 8 * length src
  source_bits = length_bits_of src

  rest : all ≡ fed ++ drop count (bits_of src)
  unfolding joined_bits message
  rest =
      ap (λ (m : List ℕ). take used (bits_of tail) ++ m)
      (take_all (8 * length src) (bits_of src) (omega (arith, source_bits)) ∙ sym (take-append-drop count (bits_of src)))
      ∙ sym (append_assoc (take used (bits_of tail)) (take count (bits_of src)) (drop count (bits_of src)))

  fed_size : length fed ≡ used + count
  unfolding joined_bits message
  fed_size =
      omega (
        arith,
        length-append (take used (bits_of tail)) (take count (bits_of src)),
        length-take used (bits_of tail),
        length-take count (bits_of src),
        length_bits_of tail,
        source_bits,
        ready.source,
        ready.below,
        ready.bytes,
        block_small f,
      )

  all_size : length all ≡ used + 8 * length src
  all_size = omega (arith, ap length rest, length-append fed (drop count (bits_of src)), fed_size, length-drop count (bits_of src), source_bits, ready.source)

  all_bits : Bits all
  unfolding joined_bits message
  all_bits =
      bits_append (take used (bits_of tail)) (take (8 * length src) (bits_of src)) (bits_take used (bits_of tail) (bits_bits_of tail))
      (bits_take (8 * length src) (bits_of src) (bits_bits_of src))

  same_state : (s : List ℕ) → chain f s all blocks ≡ chain f s fed blocks
  same_state s =
      ap (λ (m : List ℕ). chain f s m blocks) rest
      ∙ chain_append f s fed (drop count (bits_of src)) blocks (omega (arith, full_and_left f (used + count), fed_size))

  -- Whole bytes: nothing stands past them.
  whole_bytes : {state' tail' : List ℕ} {r : ℕ} → count % 8 ≡ 0
      → Joins width used state tail src (8 * length src) blocks state' tail' r → Joins width used state tail src count blocks state' tail' r
  whole_bytes {state'} {tail'} {r} even joins =
      let size : 8 * length src ≡ count = omega (arith, ready.source) in
      rw size at joins

  -- The tail cut where the bits end.
  module _ (tail' : List ℕ) (put : tail' ≡ table 128 (byte_of (drop (block_bits f * blocks) all))) where
    put_bits : (i : ℕ) → i < 1024 → get_or (bits_of tail') i 0 ≡ get_or all (block_bits f * blocks + i) 0
    put_bits i below =
        rw put
        (bits_of_bytes 128 (drop (block_bits f * blocks) all) (bits_drop (block_bits f * blocks) all all_bits) i below
        ∙ get_or-drop (block_bits f * blocks) all i 0)

    left_bit : (i : ℕ) → get_or (message tail' left) i 0 ≡ get_or (drop (block_bits f * blocks) fed) i 0
    unfolding message
    left_bit i = elim (dec_lt i left) [
      | yes before ↦
          get_or-take left (bits_of tail') i 0 before
          ∙ put_bits i (omega (arith, used_within f (used + count)))
          ∙ ap (λ (m : List ℕ). get_or m (block_bits f * blocks + i) 0) rest
          ∙ get_or-append fed (drop count (bits_of src)) 0 (block_bits f * blocks + i) (omega (arith, full_and_left f (used + count), fed_size))
          ∙ sym (get_or-drop (block_bits f * blocks) fed i 0)
      | no past ↦
          get_d_take_past left (bits_of tail') i (omega arith)
          ∙ sym (get_or-drop (block_bits f * blocks) fed i 0
          ∙ get_or-eq_default fed 0 {n = block_bits f * blocks + i} (omega (arith, full_and_left f (used + count), fed_size)))
    ]

    pub tail_cut : (tail'' : List ℕ) (n : ℕ) → n ≡ left → tail'' ≡ table (length tail') (byte_of (message tail' n))
        → tail'' ≡ table 128 (byte_of (drop (block_bits f * blocks) fed))
    tail_cut tail'' n same cut =
        let size : length tail' ≡ 128 = ap length put ∙ length_table 128 _ in
        cut
        ∙ (λ i. table (size i) (byte_of (message tail' (same i))))
        ∙ table_ext 128 _ _ (λ j _. byte_ext (message tail' left) (drop (block_bits f * blocks) fed) j j (λ t _. left_bit (8 * j + t)))

  cut_off : {state' tail' tail'' : List ℕ} {r : ℕ} → Joins width used state tail src (8 * length src) blocks state' tail' r
      → (n : ℕ) → n ≡ left → tail'' ≡ table (length tail') (byte_of (message tail' n)) → Joins width used state tail src count blocks state' tail'' r
  cut_off {state'} {tail'} {tail''} {r} joins n same cut =
      record {
        compressed = joins.compressed ∙ ap (padded 32) (same_state _);
        left = tail_cut tail' joins.left tail'' n same cut;
        number = joins.number;
      }

  -- Either way.
  pub trimmed : {state' tail' tail'' : List ℕ} {r : ℕ} → Joins width used state tail src (8 * length src) blocks state' tail' r
      → (n : ℕ) → n ≡ left → (count % 8 ≡ 0 → tail'' ≡ tail') → (count % 8 ≢ 0 → tail'' ≡ table (length tail') (byte_of (message tail' n)))
      → Joins width used state tail src count blocks state' tail'' r
  trimmed joins n same even odd = elim (ℕ_discrete (count % 8) 0) [
    | yes whole ↦
        let kept = whole_bytes whole joins in
        record { compressed = kept.compressed; left = even whole ∙ kept.left; number = kept.number }
    | no part ↦ cut_off joins n same (odd part)
  ]

  -- What is behind the byte after the last bit is 0.
  pub cut_rest : {state' tail' : List ℕ} {r : ℕ} → Joins width used state tail src (8 * length src) blocks state' tail' r
      → (n : ℕ) → n ≡ left → all_zero (drop (n / 8 + 2) tail') ≡ true
  cut_rest {state'} {tail'} {r} joins n same =
      let long = ap length joins.left ∙ length_table 128 (byte_of (drop (block_bits f * blocks) all)) in
      zero_past (n / 8 + 2) tail'
      (λ i from below.
      ap (λ (l : List ℕ). get_or l i 0) joins.left
      ∙ get_d_table 128 _ i 0 (omega (arith, long))
      ∙ byte_past (drop (block_bits f * blocks) all) i
      (omega (arith, length-drop (block_bits f * blocks) all, all_size, full_and_left f (used + count), ready.source)))

  pub cut_within : {state' tail' : List ℕ} {r : ℕ} → Joins width used state tail src (8 * length src) blocks state' tail' r
      → (n : ℕ) → n ≡ left → n / 8 < length tail'
  cut_within joins n same = omega (arith, ap length joins.left ∙ length_table 128 _, used_within f (used + count))
