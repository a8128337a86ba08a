-- What any cutting of a message under a key through simd_hmac_open, simd_hmac_feed, simd_hmac_take and simd_hmac_check gives, of the definitions that
-- their contracts cite: the tag that simd_hmac writes, and a yes for that tag alone.
use mathlib.Core.Bool.{Bool, true, false}
use mathlib.Core.List.{List, ◌++◌}
use mathlib.Core.Path.{◌≡◌, refl, sym, ap, ◌∙◌}
use Prim.Native.Nat.{ℕ, ◌+◌, ◌*◌, ◌≤◌}
use native.Mathlib.Omega.{arith}
use borrow.Author.Tests.{le-leb}
use lib.ListN.{length, drop}
use Rattle.simd.specs.Basic.{Family, small, large, family_of, is_width, block_bits, digest_bytes}
use Rattle.simd.specs.Message.{message}
use Rattle.simd.specs.Hash.{compressions}
use Rattle.laws.proofs.Bits.{Bits, bits_bits_of}
use Rattle.hash.specs.Open.{limit, first, advanced, holding, full_blocks, written, open_answer as hashOpening}
use Rattle.hash.specs.Form.{form_bytes}
use Rattle.hash.proofs.Holding.{Value}
use Rattle.hash.proofs.Feeding.{Whole, length_message, bits_message}
use Rattle.hash.proofs.Refusing.{written_accepted, stored_accepted}
use Rattle.hash_theorems.proofs.Held.{long}
use Rattle.hash_theorems.proofs.Advanced.{advanced_bits}
use Rattle.hash_theorems.proofs.Cutting.{Piece, joined, Wholes, bits_joined, Answer, in_turn, Feeding, all_joined}
use Rattle.hmac_key.specs.Hmac.{ipad, opad, masked, key_block, tag}
use Rattle.hmac_parts.specs.Keyed.{begun}
use Rattle.hmac.specs.Keyed.{Opened, Fed, legal, width, opening, feed_answer, tag_of, take_refusal, take_answer, check_answer}
use Rattle.hmac.specs.Form.{keyed_form, store_refusal, store_answer, restore_answer}
use Rattle.hmac.specs.declared.Hmac.{Hmac}
use Rattle.hmac_theorems.proofs.Tags.{further, further_legal, further_none, further_joins, fed_once, feed_all_lem}
use Rattle.hmac_theorems.proofs.Tags.{open_known, pad_bits, start_bits, start_family, start_legal, tagging}
use Rattle.hmac_theorems.proofs.Forms.{Values, keyed_length, stored_restored}
use Rattle.simd_c_forms.specs.Calls.{stored}
use Rattle.simd_c_theorems.proofs.Opening.{opened_value, opened_bits}
use Rattle.simd_c_theorems.proofs.Theorems.{advanced_value, stored_over}
use Rattle.simd_c_hmac.specs.Calls.{opened_hmac, open_call, fed_from, feed_call, take_call, check_call, yes}
use Rattle.simd_c_hmac.proofs.Answers.{answered_refusal}

-- The form that simd_hmac_open leaves, and the form and the sum of the blocks that simd_hmac_feed leaves, called for one piece after the other. The
-- refusals are summed too, so that 0 says that no call was refused.
unfoldable pub opened_form : ℕ → List ℕ → List ℕ → List ℕ
opened_form w key form = written (open_call w key form) (keyed_form (opened_hmac w key)) form

unfoldable pub feed_form : List ℕ → Piece → Answer (List ℕ)
feed_form form p =
    let refusal = feed_call form p.bytes p.count in
    let fed = fed_from form p.bytes p.count in
    record { left = written refusal (keyed_form fed.hmac) form; blocks = stored refusal fed.blocks 0; refusal = refusal }

abbrev pub feeds : List ℕ → List Piece → Answer (List ℕ)
feeds form ps = in_turn feed_form form ps

-- What simd_hmac_take leaves of a form, in the output and in the number of its blocks, and simd_hmac_check in its verdict.
unfoldable pub taken_bytes : List ℕ → List ℕ → List ℕ
taken_bytes form out = written (take_call form out) (tag_of (restore_answer form).hmac) out

unfoldable pub taken_blocks : List ℕ → List ℕ → ℕ
taken_blocks form out = stored (take_call form out) (take_answer (restore_answer form).hmac out).blocks 0

unfoldable pub verdict : List ℕ → List ℕ → ℕ → ℕ
verdict form given old = stored (check_call form given) (yes (check_answer (restore_answer form).hmac given).right) old

-- A keyed hash that was fed is again one that a form can hold.
further_values : (k : Hmac) → Values k → (m : List ℕ) → Bits m → k.inner.bits + length m ≤ limit → Values (further k m)
further_values k v m bit short = record { inner = advanced_value k.inner v.inner m bit short; outer = v.outer }

-- One feed.
module _ (k : Hmac) (v : Values k) (good : legal k ≡ true) (bytes : List ℕ) (count : ℕ) (whole : Whole bytes count)
    (short : k.inner.bits + count ≤ limit) where
  abbrev m : List ℕ
  m = message bytes count

  total : k.inner.bits + length m ≤ limit
  total = omega (arith, short, length_message bytes count whole)

  next_values : Values (further k m)
  next_values = further_values k v m (bits_message bytes count) total

  next_legal : legal (further k m) ≡ true
  next_legal = further_legal k (long v.inner.sized) m (bits_message bytes count) good

  read : restore_answer (keyed_form k) ≡ record { hmac = k; refusal = 0 }
  read = stored_restored k v good

  one_fed : fed_from (keyed_form k) bytes count ≡ record { hmac = further k m; blocks = full_blocks k.inner (length m); refusal = 0 }
  unfolding fed_from
  one_fed = ap (λ (o : Opened). feed_answer o.hmac bytes count) read ∙ fed_once k good bytes count whole short

  same_size : length (keyed_form (further k m)) ≡ length (keyed_form k)
  unfolding advanced holding
  same_size = keyed_length (further k m) next_values next_legal ∙ sym (keyed_length k v good)

  one_accepted : feed_call (keyed_form k) bytes count ≡ 0
  unfolding feed_call first store_answer store_refusal
  one_accepted =
      let size = keyed_length (further k m) next_values next_legal in
      let room = le-leb (2 * form_bytes (family_of (width (further k m)))) (length (keyed_form k)) (omega (arith, size, same_size)) in
      rw (read, one_fed, next_legal, room)

  one_form : written (feed_call (keyed_form k) bytes count) (keyed_form (fed_from (keyed_form k) bytes count).hmac) (keyed_form k) ≡ keyed_form (further k m)
  one_form =
      ap (λ (a : Fed). written (feed_call (keyed_form k) bytes count) (keyed_form a.hmac) (keyed_form k)) one_fed
      ∙ written_accepted _ (keyed_form (further k m)) (keyed_form k) one_accepted
      ∙ stored_over (keyed_form (further k m)) (keyed_form k) same_size

  one_blocks : stored (feed_call (keyed_form k) bytes count) (fed_from (keyed_form k) bytes count).blocks 0 ≡ full_blocks k.inner (length m)
  one_blocks = stored_accepted _ _ 0 one_accepted ∙ ap (λ (a : Fed). a.blocks) one_fed

-- All feeds: from the form of a keyed hash to that of the one fed with all pieces.
record Fit (k : Hmac) (n : ℕ) : Type 0 where
  values : Values k
  good : legal k ≡ true
  short : k.inner.bits + n ≤ limit

feed_once : (k : Hmac) (p : Piece) → Whole p.bytes p.count → Fit k p.count
    → feed_form (keyed_form k) p
    ≡ record {
      left = keyed_form (further k (message p.bytes p.count));
      blocks = full_blocks k.inner (length (message p.bytes p.count));
      refusal = 0;
    }
unfolding feed_form
feed_once k p whole fit =
    let form = one_form k fit.values fit.good p.bytes p.count whole fit.short in
    let blocks = one_blocks k fit.values fit.good p.bytes p.count whole fit.short in
    let refusal = one_accepted k fit.values fit.good p.bytes p.count whole fit.short in
    λ i. record { left = form i; blocks = blocks i; refusal = refusal i }

form_feeding : Feeding keyed_form feed_form further (λ k n. full_blocks k.inner n) Fit
form_feeding =
    record {
      once = feed_once;
      fewer = λ k m n fit. record { values = fit.values; good = fit.good; short = omega (arith, fit.short) };
      ready = λ k m n bit fit.
          record {
            values = further_values k fit.values m bit (omega (arith, fit.short));
            good = further_legal k (long fit.values.inner.sized) m bit fit.good;
            short = omega (arith, fit.short, advanced_bits k.inner m);
          };
      none = λ k fit. further_none k fit.values.inner.sized fit.good;
      joins = λ k m n bit fit. further_joins k fit.values.inner.sized m n bit;
    }

-- A take and a check.
module _ (k : Hmac) (v : Values k) (good : legal k ≡ true) where
  module _ (out : List ℕ) (answered : (take_answer k out).refusal ≡ 0) where
    take_accepted : take_call (keyed_form k) out ≡ 0
    unfolding take_call first
    take_accepted = rw (stored_restored k v good) answered

    take_bytes : taken_bytes (keyed_form k) out ≡ written (take_refusal k out) (tag_of k) out
    unfolding taken_bytes
    take_bytes =
        let call = take_accepted ∙ sym answered ∙ answered_refusal k out in
        let read = stored_restored k v good in
        λ i. written (call i) (tag_of (read i).hmac) out

    take_blocks : taken_blocks (keyed_form k) out ≡ (take_answer k out).blocks
    unfolding taken_blocks
    take_blocks = stored_accepted _ _ 0 take_accepted ∙ ap (λ (o : Opened). (take_answer o.hmac out).blocks) (stored_restored k v good)

  module _ (given : List ℕ) (checked : (check_answer k given).refusal ≡ 0) where
    check_accepted : check_call (keyed_form k) given ≡ 0
    unfolding check_call first
    check_accepted = rw (stored_restored k v good) checked

    check_verdict : (old : ℕ) → verdict (keyed_form k) given old ≡ yes (check_answer k given).right
    unfolding verdict
    check_verdict old =
        stored_accepted _ _ old check_accepted ∙ ap (λ (o : Opened). yes (check_answer o.hmac given).right) (stored_restored k v good)

one_is : yes true ≡ 1
unfolding yes
one_is = refl

block_small : (f : Family) → block_bits f ≤ 1024
block_small small = omega arith
block_small large = omega arith

says_yes : (t : Bool) → yes t ≡ 1 → t ≡ true
unfolding yes
says_yes true e = refl
says_yes false e = absurd (omega arith)

-- A form of twice the width's size, opened with a key, fed the pieces of any cutting of any message that with a key block is within the limit, taken and
-- checked: no call is refused, the bytes are the tag of FIPS 198-1, the blocks reported are the message's compressions and two, and the verdict
-- is 1 exactly for the whole tag.
pub record Through (w : ℕ) (key form : List ℕ) (ps : List Piece) (out : List ℕ) : Type 0 where
  pub opened : open_call w key form ≡ 0
  pub fed : (feeds (opened_form w key form) ps).refusal ≡ 0
  pub taken : take_call (feeds (opened_form w key form) ps).left out ≡ 0
  pub bytes : taken_bytes (feeds (opened_form w key form) ps).left out ≡ tag w key (joined ps) ++ drop (digest_bytes w) out
  pub blocks : (feeds (opened_form w key form) ps).blocks + taken_blocks (feeds (opened_form w key form) ps).left out
      ≡ compressions (family_of w) (length (joined ps)) + 2
  pub checked : (given : List ℕ) → check_call (feeds (opened_form w key form) ps).left given ≡ 0
  pub right : (given : List ℕ) (old : ℕ) → given ≡ tag w key (joined ps) → verdict (feeds (opened_form w key form) ps).left given old ≡ 1
  pub only : (given : List ℕ) (old : ℕ) → verdict (feeds (opened_form w key form) ps).left given old ≡ 1 → given ≡ tag w key (joined ps)

module _ (w : ℕ) (known : is_width w ≡ true) (key : List ℕ) (short : 8 * length key ≤ limit) (form : List ℕ)
    (size : length form ≡ 2 * form_bytes (family_of w)) where
  abbrev k : Hmac
  k = opening w key

  good : legal k ≡ true
  good = start_legal w known key short

  begun_value : (pad : ℕ) → Value (begun w (masked pad (key_block w key)))
  unfolding begun
  begun_value pad =
      advanced_value (hashOpening w).hash (opened_value w known) _ (bits_bits_of (masked pad (key_block w key)))
      (omega (arith, opened_bits w known, pad_bits w known key short pad, block_small (family_of w)))

  v : Values k
  unfolding opening
  v = record { inner = begun_value ipad; outer = begun_value opad }

  opened_is : opened_hmac w key ≡ k
  unfolding opened_hmac
  opened_is = ap (λ (o : Opened). o.hmac) (open_known w known key short)

  k_size : length (keyed_form k) ≡ length form
  k_size = keyed_length k v good ∙ ap (λ n. 2 * form_bytes n) (start_family w known key short) ∙ sym size

  open_accepted : open_call w key form ≡ 0
  unfolding open_call first store_answer store_refusal
  open_accepted =
      let room = le-leb (2 * form_bytes (family_of (width k))) (length form) (omega (arith, keyed_length k v good, k_size)) in
      rw (opened_is, open_known w known key short, good, room)

  open_form : opened_form w key form ≡ keyed_form k
  unfolding opened_form
  open_form =
      written_accepted _ _ form open_accepted
      ∙ ap (λ (k : Hmac). keyed_form k ++ drop (length (keyed_form k)) form) opened_is ∙ stored_over (keyed_form k) form k_size

  pub tagging_through : (ps : List Piece) → Wholes ps → block_bits (family_of w) + length (joined ps) ≤ limit → (out : List ℕ) → digest_bytes w ≤ length out
      → Through w key form ps out
  tagging_through ps whole within out room =
      let total : k.inner.bits + length (joined ps) ≤ limit = omega (arith, within, start_bits w known key short) in
      let m = joined ps in
      let a = further k m in
      let a_values = further_values k v m (bits_joined ps) total in
      let a_legal = further_legal k (long v.inner.sized) m (bits_joined ps) good in
      let run =
      ap (λ (l : List ℕ). feeds l ps) open_form ∙ all_joined form_feeding k ps whole (record { values = v; good = good; short = total }) in
      let opened_hmac_lem = ap (λ (o : Opened). o.hmac) (open_known w known key short) in
      let sealed = rw (opened_hmac_lem, feed_all_lem k v.inner.sized good ps whole total) at (tagging w known key short ps whole within out room) in
      record {
        opened = open_accepted;
        fed = ap (λ (r : Answer (List ℕ)). r.refusal) run;
        taken = ap (λ (r : Answer (List ℕ)). take_call r.left out) run ∙ take_accepted a a_values a_legal out sealed.answered;
        bytes = ap (λ (r : Answer (List ℕ)). taken_bytes r.left out) run ∙ take_bytes a a_values a_legal out sealed.answered ∙ sealed.bytes;
        blocks =
            ap (λ (r : Answer (List ℕ)). r.blocks + taken_blocks r.left out) run
            ∙ ap (λ (n : ℕ). full_blocks k.inner (length m) + n) (take_blocks a a_values a_legal out sealed.answered)
            ∙ sealed.blocks;
        checked = λ given.
            ap (λ (r : Answer (List ℕ)). check_call r.left given) run ∙ check_accepted a a_values a_legal given (sealed.checked given);
        right = λ given old e.
            ap (λ (r : Answer (List ℕ)). verdict r.left given old) run ∙ check_verdict a a_values a_legal given (sealed.checked given) old
            ∙ ap yes (sealed.right given e) ∙ one_is;
        only = λ given old e.
            sealed.only given
            (says_yes (check_answer a given).right
            (sym (check_verdict a a_values a_legal given (sealed.checked given) old)
            ∙ sym (ap (λ (r : Answer (List ℕ)). verdict r.left given old) run) ∙ e));
      }
