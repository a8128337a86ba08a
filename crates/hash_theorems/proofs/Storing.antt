-- Laws of the stored form.
use mathlib.Core.Bool.{true}
use mathlib.Core.List.{List, ◌++◌, append_assoc}
use mathlib.Core.Path.{◌≡◌, sym, ap, ◌∙◌}
use Prim.Native.Nat.{ℕ, ◌+◌, ◌*◌, ◌-◌, ◌/◌, ◌%◌, ◌^◌, ◌<◌}
use native.Mathlib.Omega.{arith}
use borrow.Author.Tests.{le-leb, eq-eqb}
use lib.ListN.{length, get_or, take, drop, length-drop, length-append, take-append-drop, length-take}
use lib.Seq.{get_or-drop, drop_at, take-add}
use Rattle.simd.specs.Basic.{family_of, block_bytes, block_bits, state_words, words_of, bytes_of}
use Rattle.laws.proofs.Bits.{get_d_bits_of}
use Rattle.laws.proofs.Bounds.{below_take}
use Rattle.laws.proofs.LittleEndian.{length_bytes_of, length_words_of, words_bytes, bytes_words, sum_lt, words_of_fit}
use Rattle.bits.specs.Zero.{all_zero, clear, padded}
use Rattle.little_endian.specs.Numbers.{number}
use Rattle.form.specs.Head.{length_bytes, head_bytes, head, form_width, form_bits}
use Rattle.little_endian.proofs.Writing.{number_read}
use Rattle.form.proofs.Forming.{length_head, written_width, written_bits}
use Rattle.form.proofs.Current.{current_today}
use Rattle.hash.specs.Open.{family, used, reached, legal}
use Rattle.hash.specs.Form.{form_bytes, form_of, form_family, current, hash_of, restore_refusal}
use Rattle.hash.specs.declared.Hash.{Hash}
use Rattle.bits.proofs.Zeros.{clear_at, clear_of, take_padded, padded_past, padded_take, get_d_padded, length_padded}
use Rattle.tail.proofs.Sizes.{words_within, bytes_within, block_within}
use Rattle.bits.proofs.Zeros.{bytes_past}
use Rattle.hash_parts.proofs.Accepted.{Accepted}
use Rattle.hash_theorems.proofs.Held.{Long, long}
use Rattle.hash.proofs.Holding.{Value, length_reached, legal_width, legal_state, legal_tail}

-- Byte strings with the same bytes, and zeros after them, are clear from the same places on.
pub clear_same : (n : ℕ) (a b : List ℕ) → ((j : ℕ) → get_or a j 0 ≡ get_or b j 0) → clear n a ≡ true → clear n b ≡ true
clear_same n a b same zeros =
    clear_of n b
    (λ i past.
    let place : 8 * (i / 8) + i % 8 ≡ i = omega arith in
    let here = get_d_bits_of b (i / 8) (i % 8) (omega arith) in
    let there = get_d_bits_of a (i / 8) (i % 8) (omega arith) in
    let bits = here ∙ ap (λ (x : ℕ). x / 2 ^ (7 - i % 8) % 2) (sym (same (i / 8))) ∙ sym there in
    rw place at bits ∙ clear_at n a zeros i past)

pub reached_fits : (h : Hash) → ((i : ℕ) → get_or h.state i 0 < 2 ^ 32) → (i : ℕ) → get_or (reached h) i 0 < 2 ^ 32
unfolding reached
reached_fits h fits = below_take (2 ^ 32) (state_words (family h)) h.state fits

-- A hash read from a form whose width and bit length are known.
rebuilt : ℕ → ℕ → List ℕ → Hash
rebuilt width bits form =
    record {
      width = width;
      bits = bits;
      state = padded 32 (words_of (state_words (family_of width)) (drop head_bytes form));
      tail = padded 128 (drop (head_bytes + block_bytes (family_of width)) form);
    }

-- A form of three parts.
module _ (a s t : List ℕ) (z : ℕ) (front : length a ≡ head_bytes) (block : length s ≡ z) where
  behind_head : drop head_bytes (a ++ s ++ t) ≡ s ++ t
  behind_head = rw (append_assoc a s t) (drop_at a (s ++ t) head_bytes front)

  behind_state : drop (head_bytes + z) (a ++ s ++ t) ≡ t
  behind_state = drop_at (a ++ s) t (head_bytes + z) (omega (arith, length-append a s))

  three_parts : length (a ++ s ++ t) ≡ head_bytes + z + length t
  three_parts = omega (arith, length-append (a ++ s) t, length-append a s)

-- Stored and restored.
module _ (h : Hash) where
  abbrev size : ℕ
  size = block_bytes (family h)

  -- The three parts of its form.
  abbrev head_part : List ℕ
  head_part = head h.width h.bits

  head_bytes_lem : length head_part ≡ head_bytes
  head_bytes_lem = length_head h.width h.bits

  abbrev state_part : List ℕ
  state_part = bytes_of (reached h)

  abbrev tail_part : List ℕ
  tail_part = take (block_bytes (family h)) h.tail

  module _ (l : Long h) where
    pub block_bytes_lem : length state_part ≡ size
    block_bytes_lem = omega (arith, length_bytes_of (reached h), length_reached h l.words)

    pub tail_bytes : length tail_part ≡ size
    tail_bytes = omega (arith, length-take size h.tail, l.bytes, bytes_within (family h))

    pub form_length : length (form_of h) ≡ form_bytes (family h)
    unfolding form_of
    form_length =
        omega (arith, three_parts head_part state_part tail_part size head_bytes_lem block_bytes_lem, tail_bytes)

  module _ (v : Value h) (good : legal h ≡ true) where
    abbrev l : Long h
    l = long v.sized

    form_width_lem : form_width (form_of h) ≡ h.width
    unfolding form_of
    form_width_lem =
        rw (append_assoc head_part state_part tail_part) (written_width h.width h.bits (state_part ++ tail_part) v.width_fits)

    form_bits_lem : form_bits (form_of h) ≡ h.bits
    unfolding form_of
    form_bits_lem =
        rw (append_assoc head_part state_part tail_part) (written_bits h.width h.bits (state_part ++ tail_part) v.bits_fit)

    form_words : words_of (state_words (family h)) (drop head_bytes (form_of h)) ≡ reached h
    unfolding form_of
    form_words =
        rw (
          behind_head head_part state_part tail_part size head_bytes_lem (block_bytes_lem l),
          ← length_reached h v.sized.words,
        )
        (words_bytes (reached h) tail_part (reached_fits h v.word_fits))

    form_tail : drop (head_bytes + size) (form_of h) ≡ tail_part
    unfolding form_of
    form_tail = behind_state head_part state_part tail_part size head_bytes_lem (block_bytes_lem l)

    past_block : all_zero (drop size h.tail) ≡ true
    past_block = bytes_past (used h) size h.tail v.sized.byte_fits (legal_tail h good) (block_within (family h) h.bits)

    same_tail : padded 128 tail_part ≡ h.tail
    same_tail = padded_take 128 size h.tail v.sized.bytes past_block

    pub form_hash : hash_of (form_of h) ≡ h
    unfolding hash_of rebuilt reached
    form_hash =
        let words = form_words in
        let state = ap (padded 32) words ∙ padded_take 32 (state_words (family h)) h.state v.sized.words (legal_state h good) in
        let tail = ap (padded 128) form_tail ∙ same_tail in
        (λ i. rebuilt (form_width_lem i) (form_bits_lem i) (form_of h))
        ∙ λ i. record { width = h.width; bits = h.bits; state = state i; tail = tail i }

    form_clear : clear (used h) tail_part ≡ true
    form_clear =
        clear_same (used h) h.tail tail_part
        (λ j. ap (λ (l : List ℕ). get_or l j 0) (sym same_tail) ∙ get_d_padded 128 tail_part j (omega (arith, tail_bytes l, bytes_within (family h))))
        (legal_tail h good)

    pub form_today : current (form_of h) ≡ form_of h
    form_today = current_today (form_of h) (form_length l ∙ ap (λ (w : ℕ). form_bytes (family_of w)) (sym form_width_lem))

    pub form_accepted : restore_refusal (form_of h) ≡ 0
    unfolding restore_refusal
    form_accepted =
        rw (
          le-leb 2 (length (form_of h)) (omega (arith, form_length l)),
          form_width_lem,
          form_bits_lem,
          legal_width h good,
          eq-eqb (length (form_of h)) (form_bytes (family h)) (form_length l),
          form_tail,
          form_clear,
        )

module _ (form : List ℕ) (fits : (i : ℕ) → get_or form i 0 < 256) (a : Accepted form) where
  dropped_fits : (n i : ℕ) → get_or (drop n form) i 0 < 256
  dropped_fits n i = rw get_or-drop (fits (n + i))

  read_words : length (words_of (state_words (form_family form)) (drop head_bytes form)) ≡ state_words (form_family form)
  read_words = length_words_of (state_words (form_family form)) (drop head_bytes form)

  read_state : reached (hash_of form) ≡ words_of (state_words (form_family form)) (drop head_bytes form)
  unfolding reached hash_of
  read_state =
      take_padded 32 (state_words (form_family form)) (words_of (state_words (form_family form)) (drop head_bytes form)) read_words
      (words_within (form_family form))

  read_tail : length (drop (head_bytes + block_bytes (form_family form)) form) ≡ block_bytes (form_family form)
  read_tail = omega (arith, length-drop (head_bytes + block_bytes (form_family form)) form, a.size)

  pub read_legal : legal (hash_of form) ≡ true
  unfolding legal hash_of
  read_legal =
      let f = form_family form in
      let state = padded_past 32 (state_words f) (words_of (state_words f) (drop head_bytes form)) (omega (arith, read_words)) in
      let tail =
      clear_same (form_bits form % block_bits f) (drop (head_bytes + block_bytes f) form) (padded 128 (drop (head_bytes + block_bytes f) form))
      (λ j. sym (get_d_padded 128 (drop (head_bytes + block_bytes f) form) j (omega (arith, read_tail, bytes_within f))))
      a.clean in
      rw (a.known, state, tail)

  pub read_value : Value (hash_of form)
  unfolding hash_of form_width form_bits number
  read_value =
      let f = form_family form in
      let tail = drop (head_bytes + block_bytes f) form in
      let words = words_of (state_words f) (drop head_bytes form) in
      record {
        sized =
            record {
              words = length_padded 32 words;
              bytes = length_padded 128 tail;
              byte_fits = λ i. rw (get_d_padded 128 tail i (omega (arith, read_tail, bytes_within f))) (dropped_fits (head_bytes + block_bytes f) i);
            };
        width_fits = sum_lt 2 (λ t. get_or form t 0) fits;
        bits_fit = sum_lt length_bytes (λ t. get_or (drop 2 form) t 0) (dropped_fits 2);
        word_fits =
            λ i.
            rw (get_d_padded 32 words i (omega (arith, read_words, words_within f)))
            (words_of_fit (state_words f) (drop head_bytes form) i (dropped_fits head_bytes));
      }

  -- The four parts of a form, one behind the other.
  whole : (z : ℕ) → take 2 form ++ take length_bytes (drop 2 form) ++ take z (drop head_bytes form) ++ drop (head_bytes + z) form ≡ form
  whole z = rw (← take-add 2 length_bytes form, ← take-add head_bytes z form) (take-append-drop (head_bytes + z) form)

  pub read_form : form_of (hash_of form) ≡ form
  unfolding form_of hash_of form_width form_bits
  read_form =
      let f = form_family form in
      let tail = drop (head_bytes + block_bytes f) form in
      let same : 4 * state_words f ≡ block_bytes f = omega arith in
      let width = number_read 2 form fits (omega (arith, a.size)) in
      let bits = number_read length_bytes (drop 2 form) (dropped_fits 2) (omega (arith, a.size, length-drop 2 form)) in
      let state : bytes_of (reached (hash_of form)) ≡ take (block_bytes f) (drop head_bytes form) =
      ap bytes_of read_state
      ∙ bytes_words (state_words f) (drop head_bytes form) (dropped_fits head_bytes) (omega (arith, a.size, length-drop head_bytes form))
      ∙ ap (λ (n : ℕ). take n (drop head_bytes form)) same in
      let rest = take_padded 128 (block_bytes f) tail read_tail (bytes_within f) in
      (λ i. width i ++ bits i ++ state i ++ rest i) ∙ whole (block_bytes f)
