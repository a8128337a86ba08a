-- Laws of whole answers: what the methods have put together is what the definitions say.
use mathlib.Core.Bool.{true, false, cond}
use mathlib.Core.List.{List, [], ◌++◌}
use mathlib.Core.Path.{◌≡◌, refl, sym, ap, ◌∙◌}
use Prim.Native.Nat.{ℕ, zero, suc, ◌+◌, ◌*◌, ◌-◌, ◌/◌, ◌%◌, ◌<◌, ◌≤◌}
use native.Mathlib.Nat.{sub-zero}
use native.Mathlib.Omega.{arith}
use borrow.Author.Tests.{leb-true}
use borrow.Rule.Slice.PartMut.{post_of}
use lib.Dec.{leb}
use lib.ListN.{length, take, drop, length-take}
use lib.Seq.{take_all}
use Rattle.simd.specs.Basic.{Family, small, large, family_of, is_width, block_bytes, block_bits, state_words, bytes_of, words_of, table, digest_bytes}
use Rattle.simd.specs.Constants.{start}
use Rattle.simd.specs.Message.{bits_of, byte_of, message, message_blocks, length_block}
use Rattle.simd.specs.Steps.{compression}
use Rattle.simd.specs.Hash.{chain, compressions}
use Rattle.laws.proofs.Chain.{length_compression}
use Rattle.laws.proofs.LittleEndian.{length_bytes_of}
use Rattle.bits.specs.Zero.{padded}
use Rattle.little_endian.specs.Numbers.{little_endian}
use Rattle.form.specs.Head.{form_width, form_bits, length_bytes, head_bytes}
use Rattle.little_endian.proofs.Writing.{state_bytes}
use Rattle.std.specs.Prelude.{Ok, Err}
use Rattle.refusals.specs.declared.Refusal.{Refusal}
use Rattle.refusals.specs.declared.Refusal.TheVariants.{Width}
use Rattle.refusals.specs.Numbers.{number}
use Rattle.refusals.proofs.Numbers.{refused_not_0}
use Rattle.hash.specs.Open.{family, used, reached, pending, holding, legal, open_refusal, opened, opened_by, open_answer, full_blocks, advanced}
use Rattle.hash.specs.Open.{piece_refusal, feed_refusal, fed, fed_by, feed_answer, final_of, digest_of, take_refusal, taken, taken_by, take_answer, written}
use Rattle.hash.specs.Form.{form_bytes, form_of, form_family, current, hash_of, store_refusal, stored_by, store_answer, restore_refusal, restore_answer}
use Rattle.advance.specs.Joined.{Ready, joined_bits, Joins}
use Rattle.hash.specs.declared.Hash.{Hash}
use Rattle.bits.proofs.Zeros.{padded_take}
use Rattle.tail.proofs.Sizes.{words_within}
use Rattle.tail.proofs.Closing.{front_bits}
use Rattle.hash.proofs.Holding.{legal_width, legal_state, legal_tail, length_reached}
use Rattle.hash.proofs.Feeding.{length_message}
use Rattle.form.proofs.Current.{current_width}
use Rattle.hash_parts.proofs.Refusing.{passed}
use Rattle.hash_parts.proofs.Accepted.{form_facts}
use Rattle.hash.proofs.Refusing.{Accepted, accepted, written_refused}
use Rattle.hash.proofs.Digests.{digest_room}

-- Refused, an answer is what the definitions say at its number.
module _ (h : Hash) (out : List ℕ) {k r : ℕ} where
  pub take_refusal_lem : k ≡ digest_bytes h.width → r ≡ cond (legal h) (cond (leb k (length out)) 0 6) 5 → r ≡ take_refusal h out
  unfolding take_refusal
  take_refusal_lem sized same = same ∙ ap (λ (n : ℕ). cond (legal h) (cond (leb n (length out)) 0 6) 5) sized

  pub store_refusal_lem : k ≡ form_bytes (family h) → r ≡ cond (legal h) (cond (leb k (length out)) 0 6) 5 → r ≡ store_refusal h out
  unfolding store_refusal
  store_refusal_lem sized same = same ∙ ap (λ (n : ℕ). cond (legal h) (cond (leb n (length out)) 0 6) 5) sized

fed_refused : (n : ℕ) (h : Hash) (m : List ℕ) → (n ≡ 0 → ⊥) → record { hash = h; blocks = 0; refusal = n } ≡ fed n h m
unfolding fed
fed_refused zero h m some = absurd (some refl)
fed_refused (suc n) h m some = refl

taken_refused : (n : ℕ) (h : Hash) → (n ≡ 0 → ⊥) → record { hash = h; blocks = 0; refusal = n } ≡ taken n h
unfolding taken
taken_refused zero h some = absurd (some refl)
taken_refused (suc n) h some = refl

opened_refused : (n : ℕ) (h : Hash) → (n ≡ 0 → ⊥) → record { hash = holding 0 0 [] []; refusal = n } ≡ opened n h
unfolding opened
opened_refused zero h some = absurd (some refl)
opened_refused (suc n) h some = refl

module _ (r : Refusal) where
  some : number r ≡ 0 → ⊥
  some = refused_not_0 r (number r) refl

  pub feed_refused : (h : Hash) (piece : List ℕ) (count : ℕ) → number r ≡ feed_refusal h piece count → fed_by h (Err r) ≡ feed_answer h piece count
  unfolding feed_answer
  feed_refused h piece count same = fed_refused (number r) h (message piece count) some ∙ ap (λ (n : ℕ). fed n h (message piece count)) same

  pub take_refused : (h : Hash) (out : List ℕ) → number r ≡ take_refusal h out
      → (taken_by h (Err r) ≡ take_answer h out) × (out ≡ written (take_refusal h out) (digest_of h) out)
  unfolding take_answer
  take_refused h out same = (
    taken_refused (number r) h some ∙ ap (λ (n : ℕ). taken n h) same,
    sym (written_refused (number r) (digest_of h) out some) ∙ ap (λ (n : ℕ). written n (digest_of h) out) same,
  )

  pub store_refused : (h : Hash) (out : List ℕ) → number r ≡ store_refusal h out
      → (stored_by {A = Unit {0}} h (Err r) ≡ store_answer h out) × (out ≡ written (store_refusal h out) (form_of h) out)
  unfolding store_answer
  store_refused h out same = (
    (λ i. record { hash = h; refusal = same i }),
    sym (written_refused (number r) (form_of h) out some) ∙ ap (λ (n : ℕ). written n (form_of h) out) same,
  )

  pub restore_refused : (form : List ℕ) → number r ≡ restore_refusal (current form) → opened_by (Err r) ≡ restore_answer form
  unfolding restore_answer
  restore_refused form same =
      opened_refused (number r) (hash_of (current form)) some ∙ ap (λ (n : ℕ). opened n (hash_of (current form))) same

-- Opened.
pub open_refused : (width : ℕ) → is_width width ≡ false → opened_by (Err Width) ≡ open_answer width
unfolding open_answer open_refusal opened
open_refused width unknown = rw unknown refl

pub open_answered : (width : ℕ) (state tail : List ℕ) → state ≡ padded 32 (start width) → tail ≡ table 128 (byte_of []) → is_width width ≡ true
    → opened_by (Ok (record { width = width; bits = 0; state = state; tail = tail })) ≡ open_answer width
unfolding open_answer open_refusal opened holding
open_answered width state tail started blank known =
    rw known (λ i. record { hash = record { width = width; bits = 0; state = started i; tail = blank i }; refusal = 0 })

-- Fed. What an accepted piece fulfils.
pub record Accepts (h : Hash) (piece : List ℕ) (count : ℕ) : Type 0 where
  pub good : legal h ≡ true
  pub whole : Accepted h.bits piece count

pub feed_facts : (h : Hash) (piece : List ℕ) (count : ℕ) → 0 ≡ feed_refusal h piece count → Accepts h piece count
unfolding feed_refusal
feed_facts h piece count none =
    let first = passed (legal h) (piece_refusal h.bits piece count) 4 (sym none) in
    record { good = first.0; whole = accepted h.bits piece count first.1 }

used_below : (f : Family) (n : ℕ) → (n % block_bits f < block_bits f) × (n % block_bits f ≤ n)
used_below small n = (omega arith, omega arith)
used_below large n = (omega arith, omega arith)

-- The piece is cut to b bytes.
module _ (h : Hash) (piece : List ℕ) (count : ℕ) (a : Accepts h piece count) (b : ℕ) (cut : b ≡ (count + 7) / 8) where
  pub ready : (n : ℕ) → n ≡ used h → length h.state ≡ 32 → length h.tail ≡ 128
      → Ready h.width n h.state h.tail (take b piece) count
  ready n same words bytes =
      record {
        words = words;
        bytes = bytes;
        below = rw same (used_below (family h) h.bits).0;
        state_clear = legal_state h a.good;
        tail_clear = rw same (legal_tail h a.good);
        source = omega (arith, length-take b piece, a.whole.within);
        short = omega (arith, a.whole.short, same, (used_below (family h) h.bits).1);
      }

  -- The bits of the bytes used are the piece's.
  piece_bits : take count (bits_of (take b piece)) ≡ message piece count
  unfolding message
  piece_bits = ap (λ (n : ℕ). take count (bits_of (take n piece))) cut ∙ front_bits piece count a.whole.within

  pub feed_answered : (n : ℕ) → n ≡ used h → 0 ≡ feed_refusal h piece count → (state' tail' : List ℕ) (blocks : ℕ)
      → Joins h.width n h.state h.tail (take b piece) count ((n + count) / block_bits (family h)) state' tail' blocks
      → fed_by (record { width = h.width; bits = h.bits + count; state = state'; tail = tail' }) (Ok blocks) ≡ feed_answer h piece count
  unfolding feed_answer fed advanced full_blocks holding reached pending joined_bits message
  feed_answered n same none state' tail' blocks joins =
      let f = family h in
      let size = length_message piece count a.whole.within in
      let joined : joined_bits n h.tail (take b piece) count ≡ pending h ++ message piece count =
      λ i. take (same i) (bits_of h.tail) ++ piece_bits i in
      let full : (n + count) / block_bits f ≡ (used h + length (message piece count)) / block_bits f = λ i. (same i + sym size i) / block_bits f in
      let total : h.bits + count ≡ h.bits + length (message piece count) = ap (λ (m : ℕ). h.bits + m) (sym size) in
      let state = joins.compressed ∙ λ i. padded 32 (chain f (reached h) (joined i) (full i)) in
      let tail = joins.left ∙ λ i. table 128 (byte_of (drop (block_bits f * full i) (joined i))) in
      rw (sym none) (λ i. record {
        hash = record { width = h.width; bits = total i; state = state i; tail = tail i };
        blocks = (joins.number ∙ full) i;
        refusal = 0;
      })

-- Taken.
pub take_facts : (h : Hash) (out : List ℕ) → 0 ≡ take_refusal h out → (legal h ≡ true) × (digest_bytes h.width ≤ length out)
unfolding take_refusal
take_facts h out none =
    let room = leb (digest_bytes h.width) (length out) in
    let first = passed (legal h) (cond room 0 6) 4 (sym none) in
    (first.0, leb-true (digest_bytes h.width) (length out) (passed room 0 5 first.1).0)

-- A front of n bytes written into a buffer.
front_written : (n : ℕ) (bytes out : List ℕ) → length bytes ≡ n → bytes ++ drop n out ≡ written 0 bytes out
unfolding written
front_written n bytes out size = ap (λ (k : ℕ). bytes ++ drop k out) (sym size)

-- A digest written from a state, as many of its first bytes as the width asks.
module _ (width : ℕ) (known : is_width width ≡ true) (words out : List ℕ) (long : length words ≡ state_words (family_of width))
    (enough : digest_bytes width ≤ length out) {k : ℕ} {state bytes : List ℕ} (sized : k ≡ digest_bytes width) (stated : state ≡ padded 32 words) where
  front_state : bytes ≡ take (length (take k out)) (bytes_of state) → bytes ++ drop k out ≡ written 0 (take (digest_bytes width) (bytes_of words)) out
  front_state wrote =
      let n = digest_bytes width in
      let f = family_of width in
      let size : length (take k out) ≡ n = omega (arith, length-take k out) in
      let room = digest_room width known in
      let digest : bytes ≡ take n (bytes_of words) =
      wrote
      ∙ (λ i. take (size i) (bytes_of (stated i)))
      ∙ state_bytes n words (omega (arith, long, room)) (omega (arith, long, words_within f)) in
      let whole : length (take n (bytes_of words)) ≡ k = omega (arith, length-take n (bytes_of words), length_bytes_of words, long, room) in
      front_written k bytes out (ap length digest ∙ whole) ∙ ap (λ (b : List ℕ). written 0 b out) digest

  -- The same where the range that is written begins at a 0.
  pub state_written : bytes ≡ take (length (take (k - 0) out)) (bytes_of state)
      → bytes ++ post_of 0 (k - 0) out ≡ written 0 (take (digest_bytes width) (bytes_of words)) out
  state_written wrote =
      ap (λ (n : ℕ). bytes ++ post_of 0 n out) (sub-zero k)
      ∙ front_state (wrote ∙ ap (λ (n : ℕ). take (length (take n out)) (bytes_of state)) (sub-zero k))

pub take_answered : (h : Hash) (out : List ℕ) → 0 ≡ take_refusal h out → (k : ℕ) → k ≡ digest_bytes h.width
    → (state' bytes : List ℕ) (blocks : ℕ)
    → state' ≡ padded 32 (compression (family h) true
    (chain (family h) (take (state_words (family h)) h.state) (message h.tail (used h)) (message_blocks (family h) (used h)))
    (length_block (family h) h.bits))
    → blocks ≡ compressions (family h) (used h)
    → bytes ≡ take (length (take k out)) (bytes_of state')
    → (taken_by h (Ok blocks) ≡ take_answer h out)
    × (bytes ++ drop k out ≡ written (take_refusal h out) (digest_of h) out)
unfolding take_answer taken digest_of final_of reached pending message
take_answered h out none k sized state' bytes blocks stated counted wrote =
    let facts = take_facts h out none in
    let f = family h in
    let before = chain f (take (state_words f) h.state) (message h.tail (used h)) (message_blocks f (used h)) in
    let words = length_compression f true before (length_block f h.bits) in (
      rw (sym none) (λ i. record { hash = h; blocks = counted i; refusal = 0 }),
      rw (sym none) (front_state h.width (legal_width h facts.0) (final_of h) out words facts.1 sized stated wrote),
    )

-- Stored.
pub store_facts : (h : Hash) (out : List ℕ) → 0 ≡ store_refusal h out → (legal h ≡ true) × (form_bytes (family h) ≤ length out)
unfolding store_refusal
store_facts h out none =
    let room = leb (form_bytes (family h)) (length out) in
    let first = passed (legal h) (cond room 0 6) 4 (sym none) in
    (first.0, leb-true (form_bytes (family h)) (length out) (passed room 0 5 first.1).0)

pub store_answered : (h : Hash) (out : List ℕ) → 0 ≡ store_refusal h out → length h.state ≡ 32 → length h.tail ≡ 128
    → (size k : ℕ) → size ≡ block_bytes (family h) → k ≡ form_bytes (family h) → (bytes : List ℕ)
    → bytes ≡ little_endian 2 h.width ++ little_endian length_bytes h.bits ++ take size (bytes_of h.state) ++ take size h.tail
    → length bytes ≡ k
    → (stored_by h (Ok (tt {0})) ≡ store_answer h out) × (bytes ++ drop k out ≡ written (store_refusal h out) (form_of h) out)
unfolding store_answer form_of reached
store_answered h out none words long size k block whole bytes wrote count =
    let good = (store_facts h out none).0 in
    let f = family h in
    let w = take (state_words f) h.state in
    let fits : padded 32 w ≡ h.state = padded_take 32 (state_words f) h.state words (legal_state h good) in
    let count_words = length_reached h words in
    let state : take size (bytes_of h.state) ≡ bytes_of w =
    ap (λ (l : List ℕ). take size (bytes_of l)) (sym fits)
    ∙ state_bytes size w (omega (arith, count_words)) (omega (arith, count_words, words_within f))
    ∙ take_all size (bytes_of w) (omega (arith, count_words, length_bytes_of w)) in
    let form : bytes ≡ form_of h =
    wrote ∙ λ i. little_endian 2 h.width ++ little_endian length_bytes h.bits ++ state i ++ take (block i) h.tail in (
      (λ i. record { hash = h; refusal = none i }),
      rw (sym none) (front_written k bytes out count ∙ ap (λ (b : List ℕ). written 0 b out) form),
    )

-- Restored. What is read of a form goes by its own width, which is that of the form that it stands for.
pub block_size : (form : List ℕ) (width size : ℕ) → width ≡ form_width form → size ≡ block_bytes (family_of width) → size ≡ block_bytes (form_family form)
block_size form width size wide block = block ∙ ap (λ (w : ℕ). block_bytes (family_of w)) wide

pub restore_size : (form : List ℕ) → 0 ≡ restore_refusal (current form) → length (current form) ≡ form_bytes (form_family form)
restore_size form none =
    (form_facts (current form) (sym none)).size ∙ ap (λ (w : ℕ). form_bytes (family_of w)) (current_width form)

pub restore_answered : (form : List ℕ) → 0 ≡ restore_refusal (current form) → (width bits : ℕ) (state tail : List ℕ)
    → width ≡ form_width form → bits ≡ form_bits (current form)
    → state ≡ padded 32 (words_of (state_words (form_family form)) (drop head_bytes (current form)))
    → tail ≡ padded 128 (drop (head_bytes + block_bytes (form_family form)) (current form))
    → opened_by (Ok (record { width = width; bits = bits; state = state; tail = tail })) ≡ restore_answer form
unfolding restore_answer opened hash_of
restore_answered form none width bits state tail wide length-read words rest =
    let named = sym (current_width form) in
    let state_read = words ∙ ap (λ (w : ℕ). padded 32 (words_of (state_words (family_of w)) (drop head_bytes (current form)))) named in
    let tail_read = rest ∙ ap (λ (w : ℕ). padded 128 (drop (head_bytes + block_bytes (family_of w)) (current form))) named in
    rw (sym none)
    (λ i. record { hash = record { width = (wide ∙ named) i; bits = length-read i; state = state_read i; tail = tail_read i }; refusal = 0 })
