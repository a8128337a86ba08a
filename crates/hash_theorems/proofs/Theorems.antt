-- What holds of the open hash over all messages and all cuttings, of the definitions that the methods' contracts cite.
use mathlib.Core.Bool.{true, cond}
use mathlib.Core.Logic.{◌⊎◌, ⊎_elim}
use mathlib.Core.List.{List, [], ◌∷◌, ◌++◌}
use mathlib.Core.Path.{◌≡◌, refl, sym, ap, ◌∙◌}
use Prim.Native.Nat.{ℕ, zero, suc, ◌+◌, ◌*◌, ◌/◌, ◌%◌, ◌^◌, ◌<◌, ◌≤◌}
use native.Mathlib.Nat.{zero-add}
use native.Mathlib.Omega.{arith}
use borrow.Author.Tests.{le-leb, eq-eqb, ne_eqb}
use lib.Dec.{eqb, eqb-suc-zero}
use lib.ListN.{length, get_or, take, drop, length-take}
use lib.Seq.{get_or-take, ext_get_or}
use Rattle.simd.specs.Basic.{Family, small, large, family_of, is_width, block_bytes, block_bits, bytes_of, table, digest_bytes}
use Rattle.simd.specs.Constants.{start}
use Rattle.simd.specs.Message.{bits_of, byte_of, message, message_blocks, length_block}
use Rattle.simd.specs.Steps.{compression}
use Rattle.simd.specs.Hash.{chain, final, final_state, digest, compressions}
use Rattle.laws.proofs.Table.{length_table}
use Rattle.laws.proofs.Bits.{Bits, bits_of_bytes, length_bits_of}
use Rattle.hash.specs.Open.{Opened, limit, family, used, reached, pending, holding, legal, open_refusal, opened, open_answer}
use Rattle.hash.specs.Open.{full_blocks, advanced, feed_answer, final_of, digest_of, take_refusal, taken, take_answer, written}
use Rattle.hash.specs.declared.Hash.{Hash}
use Rattle.bits.specs.Zero.{clear}
use Rattle.form.specs.Head.{head_bytes, form_width, form_bits}
use Rattle.form.proofs.Current.{current_today, current_old, current_current, current_width, current_long, current_fits, two_sizes, old_size, today_size}
use Rattle.hash.specs.Form.{form_bytes, old_form_bytes, form_family, form_of, old_form_of, widened, current, hash_of, restore_refusal, restore_answer}
use Rattle.hash.proofs.Holding.{Sized, Value}
pub use Rattle.hash_theorems.proofs.Cutting.{Piece, joined, Wholes, bits_joined, Answer, in_turn, Feeding, all_joined}
use Rattle.hash_theorems.proofs.Held.{long, held_state, held_tail, held_legal}
use Rattle.hash.proofs.Feeding.{Whole, fed_whole, start_length}
use Rattle.hash_theorems.proofs.Advanced.{held_sized, advanced_sized, advanced_bits, advanced_legal, advanced_append}
use Rattle.hash_theorems.proofs.Advanced.{advanced_none, blocks_append, none_full, final_advanced, message_blocks_lem}
use Rattle.hash.proofs.Digests.{digest_length}
use Rattle.hash.proofs.Ignored.{opened_refusal, neither}
use Rattle.hash_parts.proofs.Accepted.{form_facts}
use Rattle.hash_theorems.proofs.Storing.{form_hash, form_today, form_accepted, read_legal, read_value, read_form}
use Rattle.hash_theorems.proofs.OldForms.{old_form_size, old_form_widened}

-- An open hash fed a piece, and all pieces of a cutting.
unfoldable pub feed_piece : Hash → Piece → Answer Hash
feed_piece h p =
    let a = feed_answer h p.bytes p.count in
    record { left = a.hash; blocks = a.blocks; refusal = a.refusal }

abbrev pub feed_all : Hash → List Piece → Answer Hash
feed_all h ps = in_turn feed_piece h ps

none_used : (f : Family) → 0 ≡ 0 % block_bits f
none_used small = refl
none_used large = refl

no_bit : Bits []
no_bit i = omega arith

no_blocks : (h : Hash) → full_blocks h 0 ≡ 0
unfolding full_blocks
no_blocks h = none_full (family h) h.bits

-- Feeding pieces one after the other is feeding their bits joined, from any legal hash, whether or not a message reaches it.
pub record Fit (h : Hash) (n : ℕ) : Type 0 where
  pub sized : Sized h
  pub good : legal h ≡ true
  pub short : h.bits + n ≤ limit

feed_once : (h : Hash) (p : Piece) → Whole p.bytes p.count → Fit h p.count
    → feed_piece h p
    ≡ record { left = advanced h (message p.bytes p.count); blocks = full_blocks h (length (message p.bytes p.count)); refusal = 0 }
unfolding feed_piece
feed_once h p whole fit = rw (fed_whole h p.bytes p.count fit.good whole fit.short)

pub hash_feeding : Feeding (λ (h : Hash). h) feed_piece advanced full_blocks Fit
hash_feeding =
    record {
      once = feed_once;
      fewer = λ h m n fit. record { sized = fit.sized; good = fit.good; short = omega (arith, fit.short) };
      ready = λ h m n bit fit.
          record {
            sized = advanced_sized h (long fit.sized) m bit;
            good = advanced_legal h (long fit.sized) m bit fit.good;
            short = omega (arith, fit.short, advanced_bits h m);
          };
      none = λ h fit. (advanced_none h fit.sized fit.good, no_blocks h);
      joins = λ h m n bit fit. (advanced_append h (long fit.sized) m n bit, sym (blocks_append h m n));
    }

pub feed_all_lem : (h : Hash) → Sized h → legal h ≡ true → (ps : List Piece) → Wholes ps → h.bits + length (joined ps) ≤ limit
    → feed_all h ps ≡ record { left = advanced h (joined ps); blocks = full_blocks h (length (joined ps)); refusal = 0 }
feed_all_lem h s good ps whole short = all_joined hash_feeding h ps whole (record { sized = s; good = good; short = short })

-- Two pieces, one after the other, are a piece of their bits joined.
pub feed_twice : (h : Hash) → Sized h → legal h ≡ true → (p q r : Piece) → Wholes (p ∷ q ∷ []) → Wholes (r ∷ [])
    → joined (p ∷ q ∷ []) ≡ joined (r ∷ []) → h.bits + length (joined (r ∷ [])) ≤ limit → feed_all h (p ∷ q ∷ []) ≡ feed_all h (r ∷ [])
feed_twice h s good p q r two one same short =
    feed_all_lem h s good (p ∷ q ∷ []) two (rw same short)
    ∙ (λ i. record { left = advanced h (same i); blocks = full_blocks h (length (same i)); refusal = 0 })
    ∙ sym (feed_all_lem h s good (r ∷ []) one short)

-- Every message is a piece: its bytes, with zeros past its end, and its length.
module _ (m : List ℕ) (bit : Bits m) where
  all_bytes : length (table ((length m + 7) / 8) (byte_of m)) ≡ (length m + 7) / 8
  all_bytes = length_table ((length m + 7) / 8) (byte_of m)

  all_bits : length (bits_of (table ((length m + 7) / 8) (byte_of m))) ≡ 8 * ((length m + 7) / 8)
  all_bits = omega (arith, length_bits_of (table ((length m + 7) / 8) (byte_of m)), all_bytes)

  pub piece_whole : Whole (table ((length m + 7) / 8) (byte_of m)) (length m)
  piece_whole = omega (arith, all_bytes)

  pub piece_message : message (table ((length m + 7) / 8) (byte_of m)) (length m) ≡ m
  unfolding message
  piece_message =
      let bits = bits_of (table ((length m + 7) / 8) (byte_of m)) in
      ext_get_or 0 (take (length m) bits) m (omega (arith, length-take (length m) bits, all_bits))
      (λ i below.
      let within : i < length m = omega (arith, length-take (length m) bits) in
      get_or-take (length m) bits i 0 within ∙ bits_of_bytes ((length m + 7) / 8) m bit i (omega arith))

-- A piece of no bits changes nothing, and no block is compressed.
no_bits : (piece : List ℕ) → message piece 0 ≡ []
unfolding message
no_bits piece = refl

pub feed_none : (h : Hash) → Value h → legal h ≡ true → (piece : List ℕ) → feed_answer h piece 0 ≡ record { hash = h; blocks = 0; refusal = 0 }
feed_none h v good piece =
    let hash = advanced_none h v.sized good in
    let blocks = no_blocks h in
    fed_whole h piece 0 good (omega arith) (omega (arith, v.bits_fit))
    ∙ rw no_bits (λ i. record { hash = hash i; blocks = blocks i; refusal = 0 })

-- The hash that is opened at one of the four widths.
pub open_known : (width : ℕ) → is_width width ≡ true → open_answer width ≡ record { hash = holding width 0 (start width) []; refusal = 0 }
unfolding open_answer open_refusal opened
open_known width known = rw known

abbrev pub first : ℕ → Hash
first width = holding width 0 (start width) []

module _ (width : ℕ) (known : is_width width ≡ true) where
  none_left : length {A = ℕ} [] ≡ 0 % block_bits (family_of width)
  none_left = none_used (family_of width)

  pub first_sized : Sized (first width)
  first_sized = held_sized width 0 (start width) [] no_bit

  pub first_legal : legal (first width) ≡ true
  first_legal = held_legal width 0 (start width) [] (start_length width known) none_left no_bit known

  first_state : reached (first width) ≡ start width
  first_state = held_state width 0 (start width) [] (start_length width known) none_left no_bit

  first_tail : pending (first width) ≡ []
  first_tail = held_tail width 0 (start width) [] (start_length width known) none_left no_bit

-- A take hands the hash back as it was. It compresses two blocks exactly where the tail holds a bit, and otherwise one.
keeps : (r : ℕ) (h : Hash) → (taken r h).hash ≡ h
unfolding taken
keeps zero h = refl
keeps (suc r) h = refl

pub take_keeps : (h : Hash) (out : List ℕ) → (take_answer h out).hash ≡ h
unfolding take_answer
take_keeps h out = keeps (take_refusal h out) h

one_or_two : (f : Family) (n : ℕ) → n < block_bits f → compressions f n ≡ cond (eqb n 0) 1 2
unfolding compressions message_blocks
one_or_two small zero below = refl
one_or_two large zero below = refl
one_or_two small (suc n) below = rw eqb-suc-zero (omega arith)
one_or_two large (suc n) below = rw eqb-suc-zero (omega arith)

used_below : (f : Family) (n : ℕ) → n % block_bits f < block_bits f
used_below small n = omega arith
used_below large n = omega arith

pub take_accepted : (h : Hash) (out : List ℕ) → legal h ≡ true → digest_bytes h.width ≤ length out → take_refusal h out ≡ 0
unfolding take_refusal
take_accepted h out good room = rw (good, le-leb (digest_bytes h.width) (length out) room)

pub take_whole : (h : Hash) (out : List ℕ) → legal h ≡ true → digest_bytes h.width ≤ length out
    → take_answer h out ≡ record { hash = h; blocks = compressions (family h) (used h); refusal = 0 }
unfolding take_answer taken
take_whole h out good room = rw (take_accepted h out good room)

pub take_blocks : (h : Hash) (out : List ℕ) → legal h ≡ true → digest_bytes h.width ≤ length out
    → take_answer h out ≡ record { hash = h; blocks = cond (eqb (used h) 0) 1 2; refusal = 0 }
take_blocks h out good room =
    let blocks = one_or_two (family h) (used h) (used_below (family h) h.bits) in
    take_whole h out good room ∙ λ i. record { hash = h; blocks = blocks i; refusal = 0 }

-- From any legal hash, whether or not a message reaches it: the final state is worked out from its state, its tail, its bit length and the
-- bits fed.
pub from_any : (h : Hash) → Sized h → legal h ≡ true → (ps : List Piece) → Wholes ps → h.bits + length (joined ps) ≤ limit
    → final_of (feed_all h ps).left
    ≡ compression (family h) true
    (chain (family h) (reached h) (pending h ++ joined ps) (message_blocks (family h) (length (pending h ++ joined ps))))
    (length_block (family h) (h.bits + length (joined ps)))
from_any h s good ps whole short =
    ap (λ (a : Answer Hash). final_of a.left) (feed_all_lem h s good ps whole short) ∙ final_advanced h (long s) (joined ps) (bits_joined ps)

-- Opened at a width, fed the pieces of any cutting of any message of at most the limit's bits, and taken: no piece is refused, the digest is
-- the message's, and the blocks of the feeds and of the take are the message's compressions.
pub record Hashed (width : ℕ) (m : List ℕ) (a : Answer Hash) (out : List ℕ) : Type 0 where
  pub accepted : a.refusal ≡ 0
  pub answered : (take_answer a.left out).refusal ≡ 0
  pub bytes : written (take_refusal a.left out) (digest_of a.left) out ≡ digest width m ++ drop (digest_bytes width) out
  pub blocks : a.blocks + (take_answer a.left out).blocks ≡ compressions (family_of width) (length m)

-- That hash after bits were fed.
module _ (width : ℕ) (known : is_width width ≡ true) (m : List ℕ) (bit : Bits m) where
  abbrev after : Hash
  after = advanced (first width) m

  pub after_width : (advanced (first width) m).width ≡ width
  unfolding advanced holding
  after_width = refl

  pub after_bits : (advanced (first width) m).bits ≡ length m
  unfolding advanced holding
  after_bits = zero-add (length m)

  pub after_legal : legal (advanced (first width) m) ≡ true
  after_legal = advanced_legal (first width) (long (first_sized width known)) m bit (first_legal width known)

  after_final : final_of after ≡ final_state width m
  unfolding final_state final holding
  after_final =
      final_advanced (first width) (long (first_sized width known)) m bit
      ∙ rw (first_state width known, first_tail width known, zero-add (length m))

  pub after_digest : digest_of (advanced (first width) m) ≡ digest width m
  unfolding digest_of digest
  after_digest = λ i. take (after_width i / 8) (bytes_of (after_final i))

  after_blocks : full_blocks (first width) (length m) + compressions (family after) (used after) ≡ compressions (family_of width) (length m)
  unfolding advanced holding compressions
  after_blocks =
      let count = message_blocks_lem (first width) (long (first_sized width known)) m in
      let alone = rw (first_tail width known) at count in
      omega (arith, alone)

  module _ (out : List ℕ) (room : width / 8 ≤ length out) where
    after_hashed : Hashed width m (record { left = after; blocks = full_blocks (first width) (length m); refusal = 0 }) out
    unfolding written
    after_hashed =
        let fits : after.width / 8 ≤ length out = rw after_width room in
        let size : length (digest_of after) ≡ width / 8 = digest_length after after_legal ∙ ap (λ (w : ℕ). w / 8) after_width in
        record {
          accepted = refl;
          answered = rw (take_whole after out after_legal fits);
          bytes =
              ap (λ (r : ℕ). written r (digest_of after) out) (take_accepted after out after_legal fits)
              ∙ λ i. after_digest i ++ drop (size i) out;
          blocks = rw (take_whole after out after_legal fits) after_blocks;
        }

pub cutting : (width : ℕ) → is_width width ≡ true → (ps : List Piece) → Wholes ps → length (joined ps) ≤ limit
    → (out : List ℕ) → width / 8 ≤ length out → Hashed width (joined ps) (feed_all (open_answer width).hash ps) out
unfolding holding
cutting width known ps whole short out room =
    let all = feed_all_lem (first width) (first_sized width known) (first_legal width known) ps whole (omega arith) in
    rw (open_known width known, all) (after_hashed width known (joined ps) (bits_joined ps) out room)

pub opened_known : (r : ℕ) (h : Hash) → r ≡ 0 → opened r h ≡ record { hash = h; refusal = 0 }
unfolding opened
opened_known r h none = ap (λ (r : ℕ). opened r h) none

-- A hash that was stored and restored is the same hash, so that it goes on like the one stored.
pub stored_restored : (h : Hash) → Value h → legal h ≡ true → restore_answer (form_of h) ≡ record { hash = h; refusal = 0 }
unfolding restore_answer opened
stored_restored h v good =
    let hash = form_hash h v good in
    rw (form_today h v good, form_accepted h v good) (λ i. record { hash = hash i; refusal = 0 })

pub goes_on : (h : Hash) → Value h → legal h ≡ true → (ps : List Piece) → feed_all (restore_answer (form_of h)).hash ps ≡ feed_all h ps
goes_on h v good ps = ap (λ (r : Opened). feed_all r.hash ps) (stored_restored h v good)

-- An accepted form stored again is the form that it stands for, and its hash is legal, whether or not a message reaches its state.
pub restored_stored : (form : List ℕ) → ((i : ℕ) → get_or form i 0 < 256) → (restore_answer form).refusal ≡ 0
    → (form_of (restore_answer form).hash ≡ current form) × (legal (restore_answer form).hash ≡ true) × Value (restore_answer form).hash
unfolding restore_answer
restored_stored form fits e =
    let today = current form in
    let all = current_fits form fits in
    let none : restore_refusal today ≡ 0 = sym (opened_refusal (restore_refusal today) (hash_of today)) ∙ e in
    let facts = form_facts today none in
    rw (opened_known (restore_refusal today) (hash_of today) none)
    (read_form today all facts, read_legal today all facts, read_value today all facts)

-- A form and the one that it stands for are one hash, of the form's own width.
pub current_restored : (form : List ℕ) → restore_answer (current form) ≡ restore_answer form
unfolding restore_answer
current_restored form = rw (current_current form)

pub restored_width : (form : List ℕ) → (restore_answer form).refusal ≡ 0 → (restore_answer form).hash.width ≡ form_width form
unfolding restore_answer hash_of
restored_width form e =
    let today = current form in
    let none : restore_refusal today ≡ 0 = sym (opened_refusal (restore_refusal today) (hash_of today)) ∙ e in
    rw (opened_known (restore_refusal today) (hash_of today) none) (current_width form)

-- A form of today's size stored again is the same bytes.
pub same_bytes : (form : List ℕ) → ((i : ℕ) → get_or form i 0 < 256) → length form ≡ form_bytes (form_family form) → (restore_answer form).refusal ≡ 0
    → form_of (restore_answer form).hash ≡ form
same_bytes form fits size e = (restored_stored form fits e).0 ∙ current_today form size

-- An old form gives what its new form gives, which has zeros as the high bytes of the length: the answer is the same, and stored again it is
-- that one.
module _ (form : List ℕ) (old : length form ≡ old_form_bytes (form_family form)) where
  pub old_restored : restore_answer form ≡ restore_answer (widened form)
  old_restored = sym (current_restored form) ∙ ap restore_answer (current_old form old)

  pub old_stored : ((i : ℕ) → get_or form i 0 < 256) → (restore_answer form).refusal ≡ 0 → form_of (restore_answer form).hash ≡ widened form
  old_stored fits e = (restored_stored form fits e).0 ∙ current_old form old

-- What was stored while a hash held its length in 32 bits is restored to the hash that was stored.
pub old_form_restored : (h : Hash) → Value h → legal h ≡ true → h.bits < 2 ^ 32 → restore_answer (old_form_of h) ≡ record { hash = h; refusal = 0 }
old_form_restored h v good short =
    old_restored (old_form_of h) (old_form_size h v) ∙ ap restore_answer (old_form_widened h v short) ∙ stored_restored h v good

-- Of the forms of a known width 8 spares those of the two sizes that the width has, and no others.
module _ (form : List ℕ) (known : is_width (form_width form) ≡ true) (long : 2 ≤ length form) where
  abbrev sizes : Type 0
  sizes = (length form ≡ old_form_bytes (form_family form)) ⊎ (length form ≡ form_bytes (form_family form))

  today_known : is_width (form_width (current form)) ≡ true
  today_known = ap is_width (current_width form) ∙ known

  same_family : form_bytes (form_family (current form)) ≡ form_bytes (form_family form)
  same_family = ap (λ (w : ℕ). form_bytes (family_of w)) (current_width form)

  pub size_spared : sizes → (restore_answer form).refusal ≡ 8 → ⊥
  unfolding restore_answer restore_refusal
  size_spared two e =
      let today = current form in
      let size = ⊎_elim (old_size form) (today_size form) two ∙ sym same_family in
      let zeros = clear (form_bits today % block_bits (form_family today)) (drop (head_bytes + block_bytes (form_family today)) today) in
      let tail : restore_refusal today ≡ cond zeros 0 9 =
      rw (le-leb 2 (length today) (current_long form long), today_known, eq-eqb (length today) (form_bytes (form_family today)) size) in
      neither zeros (λ (e : 0 ≡ 8). omega arith) (λ (e : 9 ≡ 8). omega arith) (sym tail ∙ sym (opened_refusal _ (hash_of today)) ∙ e)

  pub size_refused : (sizes → ⊥) → (restore_answer form).refusal ≡ 8
  unfolding restore_answer restore_refusal
  size_refused neither-size =
      opened_refusal _ (hash_of (current form))
      ∙ rw (
        le-leb 2 (length (current form)) (current_long form long),
        today_known,
        ne_eqb (length (current form)) (form_bytes (form_family (current form))) (λ size. neither-size (two_sizes form (size ∙ same_family))),
      )
