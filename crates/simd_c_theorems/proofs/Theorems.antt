-- What any cutting of a message through simd_open, simd_feed and simd_take gives, of the definitions that their contracts cite: the digest
-- that simd_hash writes, and the message's compressions.
use mathlib.Core.Bool.{true}
use mathlib.Core.List.{List, [], ◌++◌, append-nil}
use mathlib.Core.Path.{◌≡◌, sym, ap, ◌∙◌}
use Prim.Native.Nat.{ℕ, ◌+◌, ◌/◌, ◌≤◌}
use native.Mathlib.Omega.{arith}
use borrow.Author.Tests.{le-leb}
use lib.ListN.{length, drop}
use lib.Seq.{drop-length}
use Rattle.simd.specs.Basic.{family_of, is_width}
use Rattle.simd.specs.Message.{message}
use Rattle.simd.specs.Hash.{chain, digest, compressions}
use Rattle.laws.proofs.Bits.{Bits}
use Rattle.tail.proofs.Sizes.{words_within, chain_length}
use Rattle.bits.proofs.Zeros.{get_d_padded}
use Rattle.hash.specs.Open.{Opened, Fed, limit, family, legal, reached, pending, holding, full_blocks, advanced, digest_of, written, first}
use Rattle.hash.specs.Open.{open_answer, feed_answer, take_answer, take_refusal}
use Rattle.hash.specs.Form.{form_bytes, form_of, store_refusal, store_answer, restore_answer}
use Rattle.hash.specs.declared.Hash.{Hash}
use Rattle.hash.proofs.Holding.{Value, length_reached}
use Rattle.hash.proofs.Feeding.{Whole, fed_whole, length_message, bits_message}
use Rattle.hash_theorems.proofs.Held.{long}
use Rattle.hash_theorems.proofs.Advanced.{advanced_sized, advanced_bits, advanced_legal, advanced_append, advanced_none, blocks_append, none_full}
use Rattle.hash_theorems.proofs.Storing.{reached_fits, form_length}
use Rattle.hash.proofs.Refusing.{written_accepted, stored_accepted}
use Rattle.hash_theorems.proofs.Cutting.{Piece, joined, Wholes, bits_joined, Answer, in_turn, Feeding, all_joined}
use Rattle.hash_theorems.proofs.Theorems.{open_known, feed_all_lem, cutting, stored_restored}
use Rattle.simd_c_forms.specs.Calls.{stored, opened_hash, open_call, fed_from, feed_call, take_call}
use Rattle.simd_c_forms.proofs.Answers.{answered_refusal}
use Rattle.hash.proofs.Fitting.{chain_fits}
use Rattle.simd_c_theorems.proofs.Opening.{opened_legal, opened_value, opened_bits}

-- The form that simd_open leaves, and the form and the sum of the blocks that simd_feed leaves, called for one piece after the other. The
-- refusals are summed too, so that 0 says that no call was refused.
unfoldable pub opened_form : ℕ → List ℕ → List ℕ
opened_form width form = written (open_call width form) (form_of (opened_hash width)) form

unfoldable pub feed_form : List ℕ → Piece → Answer (List ℕ)
feed_form form p =
    let refusal = feed_call form p.bytes p.count in
    let fed = fed_from form p.bytes p.count in
    record { left = written refusal (form_of fed.hash) form; blocks = stored refusal fed.blocks 0; refusal = refusal }

abbrev pub feeds : List ℕ → List Piece → Answer (List ℕ)
feeds form ps = in_turn feed_form form ps

-- What simd_take leaves of a form, in the output and in the number of its blocks.
unfoldable pub taken_bytes : List ℕ → List ℕ → List ℕ
taken_bytes form out = written (take_call form out) (digest_of (restore_answer form).hash) out

unfoldable pub taken_blocks : List ℕ → List ℕ → ℕ
taken_blocks form out = stored (take_call form out) (take_answer (restore_answer form).hash out).blocks 0

-- A hash that was fed is again one that a form can hold.
pub advanced_value : (h : Hash) → Value h → (m : List ℕ) → Bits m → h.bits + length m ≤ limit → Value (advanced h m)
unfolding advanced holding
advanced_value h v m bit short =
    let f = family h in
    let k = full_blocks h (length m) in
    let state = chain f (reached h) (pending h ++ m) k in
    let size = chain_length f (reached h) (pending h ++ m) k (length_reached h v.sized.words) in
    record {
      sized = advanced_sized h (long v.sized) m bit;
      width_fits = v.width_fits;
      bits_fit = omega (arith, short);
      word_fits = λ i.
          rw (get_d_padded 32 state i (omega (arith, size, words_within f)))
          (chain_fits f (reached h) (pending h ++ m) k (reached_fits h v.word_fits) i);
    }

-- A form stored over one of the same size is all of it.
pub stored_over : (new old : List ℕ) → length new ≡ length old → new ++ drop (length new) old ≡ new
stored_over new old same = ap (λ n. new ++ drop n old) same ∙ ap (λ l. new ++ l) (drop-length old) ∙ append-nil new

-- One feed.
module _ (h : Hash) (v : Value h) (good : legal h ≡ true) (bytes : List ℕ) (count : ℕ) (whole : Whole bytes count) (short : h.bits + count ≤ limit) where
  abbrev m : List ℕ
  m = message bytes count

  bit : Bits m
  bit = bits_message bytes count

  total : h.bits + length m ≤ limit
  total = omega (arith, short, length_message bytes count whole)

  next_value : Value (advanced h m)
  next_value = advanced_value h v m bit total

  next_legal : legal (advanced h m) ≡ true
  next_legal = advanced_legal h (long v.sized) m bit good

  read : restore_answer (form_of h) ≡ record { hash = h; refusal = 0 }
  read = stored_restored h v good

  one_fed : fed_from (form_of h) bytes count ≡ record { hash = advanced h m; blocks = full_blocks h (length m); refusal = 0 }
  unfolding fed_from
  one_fed = ap (λ (o : Opened). feed_answer o.hash bytes count) read ∙ fed_whole h bytes count good whole short

  same_size : length (form_of (advanced h m)) ≡ length (form_of h)
  unfolding advanced holding
  same_size = form_length (advanced h m) (long next_value.sized) ∙ sym (form_length h (long v.sized))

  one_accepted : feed_call (form_of h) bytes count ≡ 0
  unfolding feed_call first store_answer store_refusal
  one_accepted =
      let size = form_length (advanced h m) (long next_value.sized) in
      let room = le-leb (form_bytes (family (advanced h m))) (length (form_of h)) (omega (arith, size, same_size)) in
      rw (read, one_fed, next_legal, room)

  one_form : written (feed_call (form_of h) bytes count) (form_of (fed_from (form_of h) bytes count).hash) (form_of h) ≡ form_of (advanced h m)
  one_form =
      ap (λ (a : Fed). written (feed_call (form_of h) bytes count) (form_of a.hash) (form_of h)) one_fed
      ∙ written_accepted _ (form_of (advanced h m)) (form_of h) one_accepted
      ∙ stored_over (form_of (advanced h m)) (form_of h) same_size

  one_blocks : stored (feed_call (form_of h) bytes count) (fed_from (form_of h) bytes count).blocks 0 ≡ full_blocks h (length m)
  one_blocks = stored_accepted _ _ 0 one_accepted ∙ ap (λ (a : Fed). a.blocks) one_fed

-- All feeds: from the form of a hash to that of the hash fed with all pieces.
record Fit (h : Hash) (n : ℕ) : Type 0 where
  value : Value h
  good : legal h ≡ true
  short : h.bits + n ≤ limit

feed_once : (h : Hash) (p : Piece) → Whole p.bytes p.count → Fit h p.count
    → feed_form (form_of h) p
    ≡ record {
      left = form_of (advanced h (message p.bytes p.count));
      blocks = full_blocks h (length (message p.bytes p.count));
      refusal = 0;
    }
unfolding feed_form
feed_once h p whole fit =
    let form = one_form h fit.value fit.good p.bytes p.count whole fit.short in
    let blocks = one_blocks h fit.value fit.good p.bytes p.count whole fit.short in
    let refusal = one_accepted h fit.value fit.good p.bytes p.count whole fit.short in
    λ i. record { left = form i; blocks = blocks i; refusal = refusal i }

no_bits : (h : Hash) → Fit h 0 → (advanced h [] ≡ h) × (full_blocks h 0 ≡ 0)
unfolding full_blocks
no_bits h fit = (advanced_none h fit.value.sized fit.good, none_full (family h) h.bits)

form_feeding : Feeding form_of feed_form advanced full_blocks Fit
form_feeding =
    record {
      once = feed_once;
      fewer = λ h m n fit. record { value = fit.value; good = fit.good; short = omega (arith, fit.short) };
      ready = λ h m n bit fit.
          record {
            value = advanced_value h fit.value m bit (omega (arith, fit.short));
            good = advanced_legal h (long fit.value.sized) m bit fit.good;
            short = omega (arith, fit.short, advanced_bits h m);
          };
      none = no_bits;
      joins = λ h m n bit fit. (advanced_append h (long fit.value.sized) m n bit, sym (blocks_append h m n));
    }

-- A take.
module _ (h : Hash) (v : Value h) (good : legal h ≡ true) (out : List ℕ) (answered : (take_answer h out).refusal ≡ 0) where
  take_accepted : take_call (form_of h) out ≡ 0
  unfolding take_call first
  take_accepted = rw (stored_restored h v good) answered

  take_bytes : taken_bytes (form_of h) out ≡ written (take_refusal h out) (digest_of h) out
  unfolding taken_bytes
  take_bytes =
      let call = take_accepted ∙ sym answered ∙ answered_refusal h out in
      let read = stored_restored h v good in
      λ i. written (call i) (digest_of (read i).hash) out

  take_blocks : taken_blocks (form_of h) out ≡ (take_answer h out).blocks
  unfolding taken_blocks
  take_blocks = stored_accepted _ _ 0 take_accepted ∙ ap (λ (o : Opened). (take_answer o.hash out).blocks) (stored_restored h v good)

-- A form of the width's size, opened, fed the pieces of any cutting of any message of at most the limit's bits, and taken: no call is
-- refused, the digest is the message's, and the blocks reported are the message's compressions.
pub record Through (width : ℕ) (form : List ℕ) (ps : List Piece) (out : List ℕ) : Type 0 where
  pub opened : open_call width form ≡ 0
  pub fed : (feeds (opened_form width form) ps).refusal ≡ 0
  pub taken : take_call (feeds (opened_form width form) ps).left out ≡ 0
  pub bytes : taken_bytes (feeds (opened_form width form) ps).left out ≡ digest width (joined ps) ++ drop (width / 8) out
  pub blocks : (feeds (opened_form width form) ps).blocks + taken_blocks (feeds (opened_form width form) ps).left out
      ≡ compressions (family_of width) (length (joined ps))

module _ (width : ℕ) (known : is_width width ≡ true) (form : List ℕ) (size : length form ≡ form_bytes (family_of width)) where
  abbrev h : Hash
  h = (open_answer width).hash

  v : Value h
  v = opened_value width known

  good : legal h ≡ true
  good = opened_legal width known

  first_size : length (form_of h) ≡ length form
  unfolding holding
  first_size = form_length h (long v.sized) ∙ ap (λ (o : Opened). form_bytes (family o.hash)) (open_known width known) ∙ sym size

  open_accepted : open_call width form ≡ 0
  unfolding open_call first store_answer opened_hash store_refusal
  open_accepted =
      let room = le-leb (form_bytes (family h)) (length form) (omega (arith, form_length h (long v.sized), first_size)) in
      rw (good, room, open_known width known)

  open_form : opened_form width form ≡ form_of h
  unfolding opened_form opened_hash
  open_form = written_accepted _ (form_of h) form open_accepted ∙ stored_over (form_of h) form first_size

  pub cutting_through : (ps : List Piece) → Wholes ps → length (joined ps) ≤ limit → (out : List ℕ) → width / 8 ≤ length out → Through width form ps out
  cutting_through ps whole short out room =
      let within : h.bits + length (joined ps) ≤ limit = omega (arith, short, opened_bits width known) in
      let m = joined ps in
      let a = advanced h m in
      let a_value = advanced_value h v m (bits_joined ps) within in
      let a_legal = advanced_legal h (long v.sized) m (bits_joined ps) good in
      let run =
      ap (λ (l : List ℕ). feeds l ps) open_form ∙ all_joined form_feeding h ps whole (record { value = v; good = good; short = within }) in
      let hashed = rw (feed_all_lem h v.sized good ps whole within) at (cutting width known ps whole short out room) in
      record {
        opened = open_accepted;
        fed = ap (λ (r : Answer (List ℕ)). r.refusal) run;
        taken = ap (λ (r : Answer (List ℕ)). take_call r.left out) run ∙ take_accepted a a_value a_legal out hashed.answered;
        bytes = ap (λ (r : Answer (List ℕ)). taken_bytes r.left out) run ∙ take_bytes a a_value a_legal out hashed.answered ∙ hashed.bytes;
        blocks =
            ap (λ (r : Answer (List ℕ)). r.blocks + taken_blocks r.left out) run
            ∙ ap (λ (n : ℕ). full_blocks h (length m) + n) (take_blocks a a_value a_legal out hashed.answered)
            ∙ hashed.blocks;
      }
