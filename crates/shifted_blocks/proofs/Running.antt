-- Laws of a shifted source that is compressed a part at a time.
use mathlib.Core.Bool.{false}
use mathlib.Core.List.{List, ◌++◌, append_assoc}
use mathlib.Core.Path.{◌≡◌, refl, sym, ap, ◌∙◌}
use Prim.Native.Nat.{ℕ, zero, suc, ◌+◌, ◌*◌, ◌-◌, ◌/◌, ◌%◌, min, ◌<◌, ◌≤◌}
use native.Mathlib.Nat.{add-zero, zero-add, add-suc, mul-mod_left, mul-zero, sub-zero}
use native.Mathlib.Decide.{dec_lt}
use native.Mathlib.Omega.{arith}
use borrow.Rule.Slice.PartMut.{put_mid, post_of}
use lib.ListN.{length, get_or, take, drop, length-append, length-take, length-drop, get_or-append, get_or-eq_default}
use lib.Seq.{take_all, take_at, length-take-le, get_or-take, get_or-drop, drop-drop, drop_at, get_or-append-add}
use Rattle.simd.specs.Basic.{Family, small, large, family_of, block_bytes, state_words, table}
use Rattle.simd.specs.Steps.{compression}
use Rattle.simd.specs.Message.{bits_of}
use Rattle.simd.specs.Hash.{chain}
use Rattle.iteration.specs.Blocks.{absorbed}
use Rattle.iteration.proofs.BlockLaws.{block_whole}
use Rattle.laws.proofs.Table.{length_table, get_d_table, table_of, table_ext}
use Rattle.bits.specs.Zero.{padded}
use Rattle.bits.specs.Shift.{carry_at, shifted, with_shifted}
use Rattle.shifted_blocks.specs.Source.{Completing}
use Rattle.bits.proofs.Zeros.{take_padded, length_padded}
use Rattle.tail.proofs.Sizes.{words_within, chain_length}
use Rattle.bits.proofs.Parts.{back}
use Rattle.tail.proofs.Absorbing.{absorbed_on}
use Rattle.laws.proofs.Chain.{length_compression}

-- A part of a source, behind the carry that stands there.
module _ (scale carry : ℕ) (src : List ℕ) (at n : ℕ) where
  part_byte : (i : ℕ) → i < n → get_or (take n (drop at src)) i 0 ≡ get_or src (at + i) 0
  part_byte i inside = get_or-take n (drop at src) i 0 inside ∙ get_or-drop at src i 0

  pub carry_on : (i : ℕ) → i ≤ n → carry_at scale (carry_at scale carry src at) (take n (drop at src)) i ≡ carry_at scale carry src (at + i)
  unfolding carry_at
  carry_on zero within = ap (carry_at scale carry src) (sym (add-zero at))
  carry_on (suc i) within =
      ap (λ (b : ℕ). b * scale % 256) (part_byte i within) ∙ ap (carry_at scale carry src) (sym (add-suc at i))

  pub shifted_on : (i : ℕ) → i < n → shifted scale (carry_at scale carry src at) (take n (drop at src)) i ≡ shifted scale carry src (at + i)
  unfolding shifted
  shifted_on i inside =
      let held = carry_on i (omega arith) in
      let byte = part_byte i inside in
      λ t. (held t + byte t * scale / 256) % 256

-- What is shifted is bytes.
pub shifted_bytes : (n scale carry : ℕ) (src : List ℕ) (i : ℕ) → get_or (table n (shifted scale carry src)) i 0 < 256
unfolding shifted
shifted_bytes n scale carry src i = elim (dec_lt i n) [
  | yes low ↦ omega (arith, get_d_table n (shifted scale carry src) i 0 low)
  | no past ↦ omega (arith, get_or-eq_default (table n (shifted scale carry src)) 0 {n = i} (omega (arith, length_table n (shifted scale carry src))))
]

-- The first n bytes of a source.
pub shifted_take : (scale carry : ℕ) (src : List ℕ) (n : ℕ) → n ≤ length src
    → table (length (take n src)) (shifted scale carry (take n src)) ≡ table n (shifted scale carry src)
unfolding carry_at
shifted_take scale carry src n within =
    ap (λ (k : ℕ). table k (shifted scale carry (take n src))) (length-take-le n src within)
    ∙ table_ext n (shifted scale carry (take n src)) (shifted scale carry src)
    (λ i inside. shifted_on scale carry src 0 n i inside ∙ ap (shifted scale carry src) (zero-add i))

pub carry_take : (scale carry : ℕ) (src : List ℕ) (n : ℕ) → n ≤ length src
    → carry_at scale carry (take n src) (length (take n src)) ≡ carry_at scale carry src n
unfolding carry_at
carry_take scale carry src n within =
    ap (carry_at scale carry (take n src)) (length-take-le n src within)
    ∙ carry_on scale carry src 0 n n (omega arith)
    ∙ ap (carry_at scale carry src) (zero-add n)

-- Nothing is shifted where the scale is 256 and there is no carry.
pub carry_none : (src : List ℕ) (i : ℕ) → carry_at 256 0 src i ≡ 0
unfolding carry_at
carry_none src zero = refl
carry_none src (suc i) = mul-mod_left (get_or src i 0) 256

pub shifted_none : (src : List ℕ) → ((i : ℕ) → get_or src i 0 < 256) → table (length src) (shifted 256 0 src) ≡ src
unfolding shifted
shifted_none src fits =
    sym (table_of 0 (length src) (shifted 256 0 src) src refl
    (λ i _.
    sym (rw (carry_none src i) (omega (arith, fits i)))))

-- Whole blocks before place at, and whole blocks in the next part.
part_blocks : (f : Family) (at len : ℕ) → at ≤ len → at % block_bytes f ≡ 0 → len % block_bytes f ≡ 0
    → ((at + min (len - at) 1024) % block_bytes f ≡ 0)
    × ((at + min (len - at) 1024) / block_bytes f ≡ at / block_bytes f + min (len - at) 1024 / block_bytes f)
    × (block_bytes f * (min (len - at) 1024 / block_bytes f) ≡ min (len - at) 1024)
    × (block_bytes f * (at / block_bytes f) ≡ at)
part_blocks small at len within a l = (omega arith, omega arith, omega arith, omega arith)
part_blocks large at len within a l = (omega arith, omega arith, omega arith, omega arith)

no_block : (f : Family) → (0 % block_bytes f ≡ 0) × (0 / block_bytes f ≡ 0)
no_block small = (refl, refl)
no_block large = (refl, refl)

-- The loop over the parts of a source.
pub record Running (f : Family) (s : List ℕ) (scale carry : ℕ) (src : List ℕ) (at : ℕ) (state buffer : List ℕ) (held : ℕ) : Type 0 where
  pub within : at ≤ length src
  pub blocks : at % block_bytes f ≡ 0
  pub came : state ≡ padded 32 (absorbed f s (table (length src) (shifted scale carry src)) (at / block_bytes f))
  pub size : length state ≡ 32
  pub carried : held ≡ carry_at scale carry src at
  pub room : length buffer ≡ 1024

pub running_none : (f : Family) (scale carry : ℕ) (src state buffer : List ℕ) → state ≡ padded 32 (take (state_words f) state) → length buffer ≡ 1024
    → Running f (take (state_words f) state) scale carry src 0 state buffer carry
unfolding chain carry_at
running_none f scale carry src state buffer fits room =
    record {
      within = omega arith;
      blocks = (no_block f).0;
      came = rw (no_block f).1 fits;
      size = ap length fits ∙ length_padded 32 (take (state_words f) state);
      carried = refl;
      room = room;
    }

module _ (f : Family) (s : List ℕ) (words : length s ≡ state_words f) (scale carry : ℕ) (src : List ℕ) (whole : length src % block_bytes f ≡ 0) where
  pub running_more : (at : ℕ) (state buffer : List ℕ) (held end : ℕ) (state' buffer' : List ℕ) (held' : ℕ)
      → Running f s scale carry src at state buffer held
      → end ≡ at + min (length src - at) 1024
      → state' ≡ padded 32 (absorbed f (take (state_words f) state) (table (end - at) (shifted scale held (take (end - at) (drop at src))))
      ((end - at) / block_bytes f))
      → held' ≡ carry_at scale held (take (end - at) (drop at src)) (end - at)
      → length buffer' ≡ 1024
      → Running f s scale carry src end state' buffer' held'
  running_more at state buffer held end state' buffer' held' r ends stated carries room =
      let t = table (length src) (shifted scale carry src) in
      let j = at / block_bytes f in
      let n = end - at in
      let part = take n (drop at src) in
      let x = table n (shifted scale held part) in
      let facts = part_blocks f at (length src) r.within r.blocks whole in
      let same : n ≡ min (length src - at) 1024 = omega arith in
      let place : at + n ≡ end = omega arith in
      let blocks : j + n / block_bytes f ≡ end / block_bytes f =
      ap (λ (m : ℕ). j + m / block_bytes f) same ∙ sym facts.1 ∙ ap (λ (m : ℕ). m / block_bytes f) (sym ends) in
      let filled : block_bytes f * (n / block_bytes f) ≡ n = ap (λ (m : ℕ). block_bytes f * (m / block_bytes f)) same ∙ facts.2 ∙ sym same in
      let before : take (state_words f) state ≡ absorbed f s t j =
      ap (take (state_words f)) r.came
      ∙ take_padded 32 (state_words f) (absorbed f s t j) (chain_length f s (bits_of t) j words) (words_within f) in
      let bytes : (i : ℕ) → i < block_bytes f * (n / block_bytes f) → get_or x i 0 ≡ get_or t (block_bytes f * j + i) 0 =
      λ i below.
      let inside : i < n = omega (arith, filled) in
      get_d_table n (shifted scale held part) i 0 inside
      ∙ ap (λ (c : ℕ). shifted scale c part i) r.carried
      ∙ shifted_on scale carry src at n i inside
      ∙ sym (get_d_table (length src) (shifted scale carry src) (at + i) 0 (omega arith))
      ∙ ap (λ (m : ℕ). get_or t (m + i) 0) (sym facts.3) in
      let on =
      absorbed_on f s t x j (n / block_bytes f)
      (shifted_bytes (length src) scale carry src) (shifted_bytes n scale held part) bytes in
      let came =
      stated
      ∙ ap (λ (w : List ℕ). padded 32 (absorbed f w x (n / block_bytes f))) before
      ∙ ap (padded 32) on
      ∙ ap (λ (m : ℕ). padded 32 (absorbed f s t m)) blocks in
      record {
        within = omega arith;
        blocks = ap (λ (m : ℕ). m % block_bytes f) ends ∙ facts.0;
        came = came;
        size = ap length came ∙ length_padded 32 (absorbed f s t (end / block_bytes f));
        carried =
            carries
            ∙ ap (λ (c : ℕ). carry_at scale c part n) r.carried
            ∙ carry_on scale carry src at n n (omega arith)
            ∙ ap (carry_at scale carry src) place;
        room = room;
      }

  -- One part more off the front of what is left.
  pub running_part : (state buffer : List ℕ) (held : ℕ) (rest part rest' state' buffer' : List ℕ) (held' : ℕ)
      → rest ≡ drop (length src - length rest) src → rest ≡ part ++ rest' → length part ≡ min 1024 (length rest)
      → Running f s scale carry src (length src - length rest) state buffer held
      → state' ≡ padded 32 (absorbed f (take (state_words f) state) (table (length part) (shifted scale held part)) (length part / block_bytes f))
      → held' ≡ carry_at scale held part (length part)
      → length buffer' ≡ 1024
      → (rest' ≡ drop (length src - length rest') src) × Running f s scale carry src (length src - length rest') state' buffer' held'
  running_part state buffer held rest part rest' state' buffer' held' tail split long r came carried room =
      let at = length src - length rest in
      let end = length src - length rest' in
      let sizes : length rest ≡ length part + length rest' = ap length split ∙ length-append part rest' in
      let within : length rest ≤ length src = omega (arith, ap length tail, length-drop at src) in
      let ends : end ≡ at + min (length src - at) 1024 = omega (arith, sizes, within, long) in
      let n : length part ≡ end - at = omega (arith, sizes, within) in
      let first : part ≡ take (end - at) (drop at src) = sym (take_at part rest' (end - at) n) ∙ ap (take (end - at)) (sym split ∙ tail) in
      let place : at + length part ≡ end = omega (arith, sizes, within) in
      let last : rest' ≡ drop end src =
      sym (drop_at part rest' (length part) refl) ∙ ap (drop (length part)) (sym split ∙ tail) ∙ drop-drop (length part) at src
      ∙ ap (λ (k : ℕ). drop k src) place in (
        last,
        running_more at state buffer held end state' buffer' held' r ends
            (came ∙ λ i. padded 32 (absorbed f (take (state_words f) state) (table (n i) (shifted scale held (first i))) (n i / block_bytes f)))
            (carried ∙ λ i. carry_at scale held (first i) (n i)) room,
      )

-- Straight from the source.
pub straight : (f : Family) (w src : List ℕ) (scale carry : ℕ) → scale ≡ 256 → carry ≡ 0 → ((i : ℕ) → get_or src i 0 < 256)
    → (absorbed f w src (length src / block_bytes f) ≡ absorbed f w (table (length src) (shifted scale carry src)) (length src / block_bytes f))
    × (0 ≡ carry_at scale carry src (length src))
straight f w src scale carry same none fits =
    rw (same, none)
    (ap (λ (l : List ℕ). absorbed f w l (length src / block_bytes f)) (sym (shifted_none src fits)), sym (carry_none src (length src)))

one_block : (f : Family) → block_bytes f / block_bytes f ≡ 1
one_block small = refl
one_block large = refl

pub joined_bytes : (xs ys : List ℕ) (at i : ℕ) → ((j : ℕ) → get_or xs j 0 < 256) → ((j : ℕ) → get_or ys j 0 < 256) → get_or (take at xs ++ ys) i 0 < 256
joined_bytes xs ys at i fits_x fits_y = elim (dec_lt i (length (take at xs))) [
  | yes low ↦
      let same = get_or-append (take at xs) ys 0 i low ∙ get_or-take at xs i 0 (omega (arith, length-take at xs)) in
      omega (arith, same, fits_x i)
  | no past ↦
      let place : length (take at xs) + (i - length (take at xs)) ≡ i = omega arith in
      let same = ap (λ (k : ℕ). get_or (take at xs ++ ys) k 0) (sym place) ∙ get_or-append-add (take at xs) ys (i - length (take at xs)) 0 in
      omega (arith, same, fits_y (i - length (take at xs)))
]

-- The tail's block, with a part put behind its bytes.
pub completed : (f : Family) (s tail xs : List ℕ) (at end : ℕ) → at ≤ end → end ≤ length tail → length xs ≡ end - at → end ≡ block_bytes f
    → ((i : ℕ) → get_or (take at tail ++ xs) i 0 < 256)
    → absorbed f s (take (end - 0) (put_mid at (end - at) tail xs)) (length (take (end - 0) (put_mid at (end - at) tail xs)) / block_bytes f)
    ≡ compression f false s (take at tail ++ xs)
unfolding chain
completed f s tail xs at end order within size whole fits =
    let joined = take at tail ++ xs in
    let long : length joined ≡ end = omega (arith, length-append (take at tail) xs, length-take at tail) in
    let front : take (end - 0) (put_mid at (end - at) tail xs) ≡ joined =
    ap (λ (n : ℕ). take n (put_mid at (end - at) tail xs)) (sub-zero end)
    ∙ ap (take end) (sym (append_assoc (take at tail) xs (post_of at (end - at) tail)))
    ∙ take_at joined (post_of at (end - at) tail) end long in
    let count : length joined / block_bytes f ≡ 1 = ap (λ (n : ℕ). n / block_bytes f) (long ∙ whole) ∙ one_block f in
    let all : joined ≡ take (block_bytes f) (drop (block_bytes f * 0) joined) =
    sym (ap (λ (n : ℕ). take (block_bytes f) (drop n joined)) (mul-zero (block_bytes f)) ∙ take_all (block_bytes f) joined (omega arith)) in
    ap (λ (l : List ℕ). absorbed f s l (length l / block_bytes f)) front
    ∙ ap (absorbed f s joined) count
    ∙ ap (compression f false s) (sym (block_whole f joined 0 fits (omega arith) all))

-- A source without its first a bytes, behind the carry that stands there.
pub carry_drop : (scale carry : ℕ) (src : List ℕ) (a i : ℕ) → carry_at scale (carry_at scale carry src a) (drop a src) i ≡ carry_at scale carry src (a + i)
unfolding carry_at
carry_drop scale carry src a zero = ap (carry_at scale carry src) (sym (add-zero a))
carry_drop scale carry src a (suc i) =
    ap (λ (b : ℕ). b * scale % 256) (get_or-drop a src i 0) ∙ ap (carry_at scale carry src) (sym (add-suc a i))

pub shifted_drop : (scale carry : ℕ) (src : List ℕ) (a i : ℕ) → shifted scale (carry_at scale carry src a) (drop a src) i ≡ shifted scale carry src (a + i)
unfolding shifted
shifted_drop scale carry src a i =
    let held = carry_drop scale carry src a i in
    let byte = get_or-drop a src i 0 in
    λ t. (held t + byte t * scale / 256) % 256

-- The tail's block completed, and the full blocks behind it.
module _ (width size : ℕ) (state tail : List ℕ) (at scale carry : ℕ) (src : List ℕ) (whole : ℕ)
    (x : Completing width size state tail at scale src whole) where
  completing : table (length (take (size - at - 0) src)) (shifted scale carry (take (size - at - 0) src)) ≡ table (size - at) (shifted scale carry src)
  completing =
      ap (λ (n : ℕ). table (length (take n src)) (shifted scale carry (take n src))) (sub-zero (size - at))
      ∙ shifted_take scale carry src (size - at) (omega (arith, x.within, x.first))

  carried_on : carry_at scale carry (take (size - at - 0) src) (length (take (size - at - 0) src)) ≡ carry_at scale carry src (size - at)
  carried_on =
      ap (λ (n : ℕ). carry_at scale carry (take n src) (length (take n src))) (sub-zero (size - at))
      ∙ carry_take scale carry src (size - at) (omega (arith, x.within, x.first))

  pub crossed_state : (state₁ state₂ : List ℕ) (last : ℕ)
      → state₁ ≡ padded 32 (compression (family_of width) false (take (state_words (family_of width)) state)
      (take at tail ++ table (length (take (size - at - 0) src)) (shifted scale carry (take (size - at - 0) src))))
      → last ≡ carry_at scale carry (take (size - at - 0) src) (length (take (size - at - 0) src))
      → state₂ ≡ padded 32 (absorbed (family_of width) (take (state_words (family_of width)) state₁)
      (table (whole - size) (shifted scale last (take (length src - (size - at)) (drop (size - at) src)))) ((whole - size) / block_bytes (family_of width)))
      → state₂ ≡ padded 32 (absorbed (family_of width)
      (compression (family_of width) false (take (state_words (family_of width)) state) (take at tail ++ table (size - at) (shifted scale carry src)))
      (table (whole - size) (shifted scale (carry_at scale carry src (size - at)) (drop (size - at) src))) ((whole - size) / block_bytes (family_of width)))
  crossed_state state₁ state₂ last one carries two =
      let f = family_of width in
      let w = take (state_words f) state in
      let new = compression f false w (take at tail ++ table (size - at) (shifted scale carry src)) in
      let held = carries ∙ carried_on in
      let rest = back (size - at) src in
      let came : take (state_words f) state₁ ≡ new =
      ap (take (state_words f)) (one ∙ ap (λ (l : List ℕ). padded 32 (compression f false w (take at tail ++ l))) completing)
      ∙ take_padded 32 (state_words f) new (length_compression f false w (take at tail ++ table (size - at) (shifted scale carry src))) (words_within f) in
      two ∙ λ i. padded 32 (absorbed f (came i) (table (whole - size) (shifted scale (held i) (rest i))) ((whole - size) / block_bytes f))

  pub crossed_tail : (tail₁ tail₂ : List ℕ) (last : ℕ) → length tail₁ ≡ length tail
      → last ≡ carry_at scale carry (take (size - at - 0) src) (length (take (size - at - 0) src))
      → tail₂ ≡ table (length tail₁) (with_shifted (table (length tail₁) (λ _. 0)) 0 scale
      (carry_at scale last (take (length src - (size - at)) (drop (size - at) src)) (whole - size))
      (drop (whole - size) (take (length src - (size - at)) (drop (size - at) src))))
      → tail₂ ≡ table 128 (with_shifted (table 128 (λ _. 0)) 0 scale (carry_at scale carry src (whole - at)) (drop (whole - at) src))
  crossed_tail tail₁ tail₂ last long carries wrote =
      let held = carries ∙ carried_on in
      let rest = back (size - at) src in
      let size128 = long ∙ x.bytes in
      let place : size - at + (whole - size) ≡ whole - at = omega (arith, x.first, x.started) in
      let carry₂ =
      (λ i. carry_at scale (held i) (rest i) (whole - size))
      ∙ carry_drop scale carry src (size - at) (whole - size)
      ∙ ap (carry_at scale carry src) place in
      let back₂ = ap (drop (whole - size)) rest ∙ drop-drop (whole - size) (size - at) src ∙ ap (λ (n : ℕ). drop n src) place in
      wrote ∙ λ i. table (size128 i) (with_shifted (table (size128 i) (λ _. 0)) 0 scale (carry₂ i) (back₂ i))
