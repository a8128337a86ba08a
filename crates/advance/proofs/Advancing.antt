-- Laws of the bits of a piece behind those of a tail, byte by byte. All bits of the piece's bytes are put there; the blocks compressed are those
-- that its first `count` bits make full, so that what stands past these is left in the tail alone, where `advance` makes it 0.
use mathlib.Core.Bool.{false}
use mathlib.Core.List.{List, ◌++◌}
use mathlib.Core.Path.{◌≡◌, refl, sym, ap, ◌∙◌}
use Prim.Native.Nat.{ℕ, zero, suc, ◌+◌, ◌*◌, ◌-◌, ◌/◌, ◌%◌, ◌^◌, ◌<◌, ◌≤◌}
use native.Mathlib.Nat.{add-zero, zero-add, mod-eq_of_lt, mul-div-mul_right, mul-mod_left, mul-zero, sub-zero}
use native.Mathlib.Omega.{arith}
use native.Mathlib.Decide.{dec_lt}
use borrow.Author.Tests.{le-ltb, lt-ltb, le-leb, lt-leb}
use lib.Arith.{mod-mul}
use lib.ListN.{length, get_or, take, drop, length-append, length-take, length-drop, get_or-append}
use lib.Pow.{pow_pos, pow-add, shl-shr}
use lib.Seq.{get_or-append-add, get_or-take}
use Rattle.simd.specs.Basic.{Family, small, large, family_of, block_bytes, block_bits, state_words, table}
use Rattle.simd.specs.Message.{bits_of, byte_of, message, block}
use Rattle.simd.specs.Steps.{compression}
use Rattle.simd.specs.Hash.{chain}
use Rattle.iteration.specs.Blocks.{absorbed}
use Rattle.laws.proofs.Table.{length_table, get_d_table, table_of, table_ext}
use Rattle.laws.proofs.Bits.{Bits, byte_lt, byte_past, byte_append, byte_seam, byte_behind, bits_append, bits_take, bits_bits_of, length_bits_of}
use Rattle.laws.proofs.Chain.{byte_drop}
use Rattle.bits.specs.Zero.{padded}
use Rattle.bits.specs.Shift.{carry_at, shifted, with_shifted}
use Rattle.shifted_blocks.specs.Source.{Completing}
use Rattle.advance.specs.Joined.{Ready, joined_bits, Joins}
use Rattle.bits.proofs.Zeros.{padded_take, byte_clear}
use Rattle.bits.proofs.Stream.{bits_end}
use Rattle.tail.proofs.Absorbing.{absorbed_chain}
use Rattle.shifted_blocks.proofs.Running.{shifted_bytes, shifted_drop}

-- What a byte times 2 ^ e gives, where o + e is 8.
scaled_high : (b o e : ℕ) → o + e ≡ 8 → b * 2 ^ e / 256 ≡ b / 2 ^ o
scaled_high b o e eight =
    let whole : 256 ≡ 2 ^ o * 2 ^ e = ap (λ (n : ℕ). 2 ^ n) (sym eight) ∙ pow-add 2 o e in
    rw whole (mul-div-mul_right b (2 ^ o) (pow_pos e))

scaled_low : (b o e : ℕ) → o + e ≡ 8 → b * 2 ^ e % 256 ≡ b % 2 ^ o * 2 ^ e
scaled_low b o e eight =
    let whole : 256 ≡ 2 ^ o * 2 ^ e = ap (λ (n : ℕ). 2 ^ n) (sym eight) ∙ pow-add 2 o e in
    rw (whole, mod-mul (b * 2 ^ e) {m = 2 ^ o} {c = 2 ^ e} (pow_pos o) (pow_pos e), shl-shr, mul-mod_left, add-zero)

blocks_back : (f : Family) (n : ℕ) → block_bytes f * n / block_bytes f ≡ n
blocks_back small n = omega arith
blocks_back large n = omega arith

one_of : (f : Family) (whole blocks : ℕ) → whole ≡ block_bytes f * blocks → 0 < blocks → block_bytes f ≤ whole
one_of small whole blocks full some = omega arith
one_of large whole blocks full some = omega arith

rest_blocks : (f : Family) (whole size blocks : ℕ) → size ≡ block_bytes f → whole ≡ block_bytes f * blocks → 0 < blocks
    → whole - size ≡ block_bytes f * (blocks - 1)
rest_blocks small whole size blocks one full some = omega arith
rest_blocks large whole size blocks one full some = omega arith

room_within : (f : Family) (used count blocks n : ℕ) → used < block_bits f → blocks ≡ (used + count) / block_bits f → blocks ≡ 0 → n ≡ (count + 7) / 8
    → used / 8 + n ≤ 128
room_within small used count blocks n below counted none bytes = omega arith
room_within large used count blocks n below counted none bytes = omega arith

full_bytes : (f : Family) (used count blocks whole n : ℕ) → used < block_bits f → blocks ≡ (used + count) / block_bits f
    → whole ≡ block_bytes f * blocks → n ≡ (count + 7) / 8
    → (whole % block_bytes f ≡ 0) × (whole ≤ used / 8 + n) × (used / 8 + n ≤ whole + 128)
full_bytes small used count blocks whole n below counted full bytes = (omega arith, omega arith, omega arith)
full_bytes large used count blocks whole n below counted full bytes = (omega arith, omega arith, omega arith)

rest_whole : (f : Family) (whole size blocks : ℕ) → size ≡ block_bytes f → whole ≡ block_bytes f * blocks → 0 < blocks → (whole - size) % block_bytes f ≡ 0
rest_whole small whole size blocks one full some = omega arith
rest_whole large whole size blocks one full some = omega arith

few_blocks : (f : Family) (bits blocks : ℕ) → blocks ≡ bits / block_bits f → bits < 2 ^ 64 → blocks < 2 ^ 56
few_blocks small bits blocks counted short = omega arith
few_blocks large bits blocks counted short = omega arith

pub block_small : (f : Family) → block_bits f ≤ 1024
block_small small = omega arith
block_small large = omega arith

-- What `join` knows of its arguments, of the scale and of the number of full blocks.
pub record Joining (width used : ℕ) (state tail src : List ℕ) (count scale blocks : ℕ) : Type 0 where
  pub ready : Ready width used state tail src count
  pub tail_fits : (i : ℕ) → get_or tail i 0 < 256
  pub src_fits : (i : ℕ) → get_or src i 0 < 256
  pub scaled : scale ≡ 2 ^ (8 - used % 8)
  pub counted : blocks ≡ (used + count) / block_bits (family_of width)

module _ {width used : ℕ} {state tail src : List ℕ} {count scale blocks : ℕ} (x : Joining width used state tail src count scale blocks) where
  abbrev f : Family
  f = family_of width

  abbrev joined : List ℕ
  joined = joined_bits used tail src (8 * length src)

  -- The scale, the bytes that the tail has whole, and the byte behind them.
  abbrev power : ℕ
  power = 2 ^ (8 - used % 8)

  abbrev q : ℕ
  q = used / 8

  abbrev first : ℕ
  first = get_or tail (used / 8) 0

  tail_length : length (take used (bits_of tail)) ≡ used
  tail_length = omega (arith, length-take used (bits_of tail), length_bits_of tail, x.ready.below, x.ready.bytes, block_small f)

  src_length : length (take (8 * length src) (bits_of src)) ≡ 8 * length src
  src_length = omega (arith, length-take (8 * length src) (bits_of src), length_bits_of src)

  tail_byte : (j : ℕ) → byte_of (take used (bits_of tail)) j ≡ get_or tail j 0
  tail_byte j = byte_clear used tail j x.ready.tail_clear (x.tail_fits j)

  src_byte : (i : ℕ) → byte_of (take (8 * length src) (bits_of src)) i ≡ get_or src i 0
  src_byte i = byte_clear (8 * length src) src i (bits_end (8 * length src) src (omega arith)) (x.src_fits i)

  pub joined_size : length joined ≡ used + 8 * length src
  unfolding joined_bits message
  joined_size = omega (arith, length-append (take used (bits_of tail)) (take (8 * length src) (bits_of src)), tail_length, src_length)

  joined_bits_lem : Bits joined
  unfolding joined_bits message
  joined_bits_lem =
      bits_append (take used (bits_of tail)) (take (8 * length src) (bits_of src)) (bits_take used (bits_of tail) (bits_bits_of tail))
      (bits_take (8 * length src) (bits_of src) (bits_bits_of src))

  pub few : blocks < 2 ^ 56
  few = few_blocks f (used + count) blocks x.counted x.ready.short

  pub room_left : blocks ≡ 0 → q + length src ≤ length tail
  room_left none = omega (arith, x.ready.bytes, room_within f used count blocks (length src) x.ready.below x.counted none x.ready.source)

  pub whole_bytes : (whole : ℕ) → whole ≡ block_bytes f * blocks
      → (whole % block_bytes f ≡ 0) × (whole ≤ q + length src) × (q + length src ≤ whole + length tail)
  whole_bytes whole full =
      let facts = full_bytes f used count blocks whole (length src) x.ready.below x.counted full x.ready.source in
      (facts.0, facts.1, omega (arith, facts.2, x.ready.bytes))

  -- Bytes that the tail has whole.
  pub byte_before : (j : ℕ) → j < q → byte_of joined j ≡ get_or tail j 0
  unfolding joined_bits message
  byte_before j before =
      byte_append (take used (bits_of tail)) (take (8 * length src) (bits_of src)) j (omega (arith, tail_length)) ∙ tail_byte j

  -- Bytes from the tail's last on.
  stream_from : (i : ℕ) → (carry_at power first src i + get_or src i 0 * power / 256) ≡ byte_of joined (q + i)
  unfolding carry_at joined_bits message
  stream_from zero =
      let o = used % 8 in
      let e = 8 - o in
      let eight : o + e ≡ 8 = omega arith in
      let t = take used (bits_of tail) in
      let m = take (8 * length src) (bits_of src) in
      let seam = byte_seam t m q o e (tail_length ∙ omega arith) eight (bits_take (8 * length src) (bits_of src) (bits_bits_of src)) in
      let bytes : byte_of t q + byte_of m 0 / 2 ^ o ≡ first + get_or src 0 0 / 2 ^ o = λ i. tail_byte q i + src_byte 0 i / 2 ^ o in
      rw (scaled_high (get_or src 0 0) o e eight, add-zero) (sym (seam ∙ bytes))
  stream_from (suc i) =
      let o = used % 8 in
      let e = 8 - o in
      let eight : o + e ≡ 8 = omega arith in
      let t = take used (bits_of tail) in
      let m = take (8 * length src) (bits_of src) in
      let behind = byte_behind t m q o e (tail_length ∙ omega arith) eight (bits_take (8 * length src) (bits_of src) (bits_bits_of src)) i in
      let bytes : byte_of m i % 2 ^ o * 2 ^ e + byte_of m (suc i) / 2 ^ o ≡ get_or src i 0 % 2 ^ o * 2 ^ e + get_or src (suc i) 0 / 2 ^ o =
      λ k. src_byte i k % 2 ^ o * 2 ^ e + src_byte (suc i) k / 2 ^ o in
      rw (scaled_high (get_or src (suc i) 0) o e eight, scaled_low (get_or src i 0) o e eight) (sym (behind ∙ bytes))

  pub stream : (i : ℕ) → byte_of joined (q + i) ≡ shifted power first src i
  unfolding shifted
  stream i =
      sym (ap (λ (b : ℕ). b % 256) (stream_from i) ∙ mod-eq_of_lt (byte_lt joined (q + i) joined_bits_lem))

  pub byte_end : (j : ℕ) → q + length src < j → byte_of joined j ≡ 0
  byte_end j past = byte_past joined j (omega (arith, joined_size, x.ready.source))

  -- The tail where no block is full.
  pub tail_with_shifted : table 128 (with_shifted tail q power first src) ≡ table 128 (byte_of joined)
  unfolding with_shifted
  tail_with_shifted =
      table_ext 128 (with_shifted tail q power first src) (byte_of joined) (λ j _. each j)
    where
      each : (j : ℕ) → with_shifted tail q power first src j ≡ byte_of joined j
      each j = elim (dec_lt j q) [
        | yes before ↦ rw (lt-ltb j q before) (sym (byte_before j before))
        | no after ↦ elim (dec_lt (length src) (j - q)) [
          | yes past ↦
              let none : get_or tail j 0 ≡ 0 = sym (tail_byte j) ∙ byte_past (take used (bits_of tail)) j (omega (arith, tail_length)) in
              rw (le-ltb j q (omega arith), lt-leb (j - q) (length src) past) (none ∙ sym (byte_end j (omega arith)))
          | no within ↦
              let place : q + (j - q) ≡ j = omega arith in
              rw (le-ltb j q (omega arith), le-leb (j - q) (length src) (omega arith))
              (sym (stream (j - q)) ∙ ap (byte_of joined) place)
        ]
      ]

  -- The state where no block is full.
  pub state_kept : padded 32 (take (state_words f) state) ≡ state
  state_kept = padded_take 32 (state_words f) state x.ready.words x.ready.state_clear

  -- Blocks from block c on, read from the source where its first a bytes went before: the tail's bytes and those make c blocks.
  module _ (c a : ℕ) (there : q + a ≡ block_bytes f * c) where
    pub rest_byte : (i : ℕ) → shifted power (carry_at power first src a) (drop a src) i
        ≡ byte_of joined (block_bytes f * c + i)
    rest_byte i =
        let place : q + (a + i) ≡ block_bytes f * c + i = omega arith in
        shifted_drop power first src a i ∙ sym (stream (a + i)) ∙ ap (byte_of joined) place

    pub rest_state : (s : List ℕ) (n : ℕ)
        → absorbed f (chain f s joined c)
        (table (block_bytes f * n) (shifted power (carry_at power first src a) (drop a src))) n
        ≡ chain f s joined (c + n)
    rest_state s n =
        let g = shifted power (carry_at power first src a) (drop a src) in
        absorbed_chain f s joined (table (block_bytes f * n) g) c n
        (shifted_bytes (block_bytes f * n) power (carry_at power first src a) (drop a src))
        (λ i below. get_d_table (block_bytes f * n) g i 0 below ∙ rest_byte i)

    pub rest_tail : table 128 (with_shifted (table 128 (λ _. 0)) 0 power (carry_at power first src a) (drop a src))
        ≡ table 128 (byte_of (drop (block_bits f * c) joined))
    unfolding with_shifted
    rest_tail =
        let carry = carry_at power first src a in
        table_ext 128 (with_shifted (table 128 (λ _. 0)) 0 power carry (drop a src))
        (byte_of (drop (block_bits f * c) joined)) each
      where
        each : (j : ℕ) → j < 128
            → with_shifted (table 128 (λ _. 0)) 0 power (carry_at power first src a) (drop a src) j
            ≡ byte_of (drop (block_bits f * c) joined) j
        each j below =
            let right = byte_drop joined (block_bytes f * c) (block_bits f * c) j (omega arith) in
            elim (dec_lt (length (drop a src)) j) [
              | yes past ↦
                  rw (le-ltb j 0 (omega arith), sub-zero j, lt-leb j (length (drop a src)) past)
                  (get_d_table 128 (λ _. 0) j 0 below ∙ sym (right ∙ byte_end (block_bytes f * c + j) (omega (arith, length-drop a src))))
              | no within ↦
                  rw (le-ltb j 0 (omega arith), sub-zero j, le-leb j (length (drop a src)) (omega arith)) (rest_byte j ∙ sym right)
            ]

  -- The three ways on.
  abbrev goal : List ℕ → List ℕ → ℕ → Type 0
  goal state' tail' n = Joins width used state tail src (8 * length src) ((used + count) / block_bits f) state' tail' n

  pub none_complete : blocks ≡ 0 → (tail' : List ℕ)
      → tail' ≡ table (length tail) (with_shifted tail q scale first src) → goal state tail' 0
  unfolding chain
  none_complete none tail' wrote =
      let zeros : 0 ≡ (used + count) / block_bits f = sym none ∙ x.counted in
      let start : 0 ≡ block_bits f * ((used + count) / block_bits f) = sym (mul-zero (block_bits f)) ∙ ap (λ (n : ℕ). block_bits f * n) zeros in
      record {
        compressed = sym state_kept ∙ ap (λ (n : ℕ). padded 32 (chain f (take (state_words f) state) joined n)) zeros;
        left =
            wrote
            ∙ (λ i. table (x.ready.bytes i) (with_shifted tail q (x.scaled i) first src))
            ∙ tail_with_shifted
            ∙ ap (λ (n : ℕ). table 128 (byte_of (drop n joined))) start;
        number = zeros;
      }

  -- The tail that is left after all full blocks.
  left_over : (a : ℕ) → q + a ≡ block_bytes f * blocks → (tail' : List ℕ)
      → tail' ≡ table 128 (with_shifted (table 128 (λ _. 0)) 0 scale (carry_at scale first src a) (drop a src))
      → tail' ≡ table 128 (byte_of (drop (block_bits f * ((used + count) / block_bits f)) joined))
  left_over a there tail' wrote =
      wrote
      ∙ (λ i. table 128 (with_shifted (table 128 (λ _. 0)) 0 (x.scaled i) (carry_at (x.scaled i) first src a) (drop a src)))
      ∙ rest_tail blocks a there
      ∙ ap (λ (n : ℕ). table 128 (byte_of (drop (block_bits f * n) joined))) x.counted

  pub from_start : used ≡ 0 → (whole : ℕ) → whole ≡ block_bytes f * blocks → (state' tail' : List ℕ)
      → state' ≡ padded 32 (absorbed f (take (state_words f) state) (table whole (shifted scale first src)) (whole / block_bytes f))
      → tail' ≡ table (length tail) (with_shifted (table (length tail) (λ _. 0)) 0 scale (carry_at scale first src whole) (drop whole src))
      → goal state' tail' blocks
  unfolding chain carry_at
  from_start none whole full state' tail' stated wrote =
      let w = take (state_words f) state in
      let divided : whole / block_bytes f ≡ blocks = ap (λ (n : ℕ). n / block_bytes f) full ∙ blocks_back f blocks in
      let state_on = rest_state 0 0 (rw (none, mul-zero) refl) w blocks in
      record {
        compressed =
            stated
            ∙ (λ i. padded 32 (absorbed f w (table (full i) (shifted (x.scaled i) first src)) (divided i)))
            ∙ ap (padded 32) state_on
            ∙ ap (λ (n : ℕ). padded 32 (chain f w joined n)) (zero-add blocks ∙ x.counted);
        left =
            left_over whole (omega arith) tail'
            (wrote
            ∙ λ i. table (x.ready.bytes i) (with_shifted (table (x.ready.bytes i) (λ _. 0)) 0 scale (carry_at scale first src whole) (drop whole src)));
        number = x.counted;
      }

  first_block : take q tail ++ table (block_bytes f - q) (shifted power first src)
      ≡ block f joined 0
  unfolding block
  first_block =
      let g = shifted power first src in
      table_of 0 (block_bytes f) (λ j. byte_of joined (block_bytes f * 0 + j)) (take q tail ++ table (block_bytes f - q) g)
      (omega (arith, length-append (take q tail) (table (block_bytes f - q) g), front, length_table (block_bytes f - q) g, within_block))
      each
    where
      within_block : q ≤ block_bytes f
      within_block = omega (arith, x.ready.below)

      front : length (take q tail) ≡ q
      front = omega (arith, length-take q tail, x.ready.bytes, x.ready.below, block_small f)

      each : (j : ℕ) → j < block_bytes f
          → get_or (take q tail ++ table (block_bytes f - q) (shifted power first src)) j 0
          ≡ byte_of joined (block_bytes f * 0 + j)
      each j below =
          let g = shifted power first src in
          let here : j ≡ block_bytes f * 0 + j = sym (ap (λ (n : ℕ). n + j) (mul-zero (block_bytes f)) ∙ zero-add j) in
          elim (dec_lt j q) [
            | yes before ↦
                get_or-append (take q tail) (table (block_bytes f - q) g) 0 j (omega (arith, front))
                ∙ get_or-take q tail j 0 before
                ∙ sym (byte_before j before)
                ∙ ap (byte_of joined) here
            | no after ↦
                let place : length (take q tail) + (j - q) ≡ j = omega (arith, front) in
                let stands : q + (j - q) ≡ j = omega arith in
                ap (λ (n : ℕ). get_or (take q tail ++ table (block_bytes f - q) g) n 0) (sym place)
                ∙ get_or-append-add (take q tail) (table (block_bytes f - q) g) (j - q) 0
                ∙ get_d_table (block_bytes f - q) g (j - q) 0 (omega arith)
                ∙ sym (stream (j - q))
                ∙ ap (byte_of joined) (stands ∙ here)
          ]

  pub from_tail : (size whole : ℕ) → size ≡ block_bytes f → whole ≡ block_bytes f * blocks → 0 < blocks → (state' tail' : List ℕ)
      → state' ≡ padded 32 (absorbed f
      (compression f false (take (state_words f) state)
      (take q tail ++ table (size - q) (shifted scale first src)))
      (table (whole - size) (shifted scale (carry_at scale first src (size - q)) (drop (size - q) src)))
      ((whole - size) / block_bytes f))
      → tail' ≡ table 128 (with_shifted (table 128 (λ _. 0)) 0 scale (carry_at scale first src (whole - q)) (drop (whole - q) src))
      → goal state' tail' blocks
  unfolding chain
  from_tail size whole one full some state' tail' stated wrote =
      let w = take (state_words f) state in
      let within : q ≤ block_bytes f = omega (arith, x.ready.below) in
      let rest : whole - size ≡ block_bytes f * (blocks - 1) = rest_blocks f whole size blocks one full some in
      let divided : (whole - size) / block_bytes f ≡ blocks - 1 = ap (λ (n : ℕ). n / block_bytes f) rest ∙ blocks_back f (blocks - 1) in
      let there : q + (block_bytes f - q) ≡ block_bytes f * 1 = omega arith in
      let state_on = rest_state 1 (block_bytes f - q) there w (blocks - 1) in
      let total : 1 + (blocks - 1) ≡ blocks = omega arith in
      record {
        compressed =
            stated
            ∙ (λ i. padded 32 (absorbed f (compression f false w (take q tail ++ table (one i - q) (shifted (x.scaled i) first src)))
            (table (rest i) (shifted (x.scaled i) (carry_at (x.scaled i) first src (one i - q)) (drop (one i - q) src))) (divided i)))
            ∙ ap (λ (l : List ℕ). padded 32 (absorbed f (compression f false w l)
            (table (block_bytes f * (blocks - 1)) (shifted power (carry_at power first src (block_bytes f - q)) (drop (block_bytes f - q) src)))
            (blocks - 1)))
            first_block
            ∙ ap (padded 32) state_on
            ∙ ap (λ (n : ℕ). padded 32 (chain f w joined n)) (total ∙ x.counted);
        left = left_over (whole - q) (omega (arith, within, one_of f whole blocks full some)) tail' wrote;
        number = x.counted;
      }

  pub completing : (size whole : ℕ) → scale ≤ 256 → size ≡ block_bytes f → whole ≡ block_bytes f * blocks → 0 < blocks
      → Completing width size state tail q scale src whole
  completing size whole bounded one full some =
      let facts = full_bytes f used count blocks whole (length src) x.ready.below x.counted full x.ready.source in
      record {
        block = one;
        words = sym state_kept;
        bytes = x.ready.bytes;
        scaled = bounded;
        started = omega (arith, x.ready.below);
        blocks = rest_whole f whole size blocks one full some;
        first = omega (arith, one_of f whole blocks full some);
        within = facts.1;
        rest = facts.2;
      }
