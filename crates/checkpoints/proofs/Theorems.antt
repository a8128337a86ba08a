-- What holds of every index and every correction, of the definitions that the calls' contracts cite.
use mathlib.Core.Bool.{true, cond, ◌&&◌}
use mathlib.Core.List.{List}
use mathlib.Core.Path.{◌≡◌, sym, ap, ◌∙◌}
use Prim.Native.Nat.{ℕ, ◌+◌, ◌*◌, ◌^◌, ◌<◌, ◌≤◌}
use native.Mathlib.Omega.{arith}
use borrow.Author.Tests.{le-leb, ne_eqb}
use lib.Dec.{leb, lit<}
use lib.ListN.{length, get_or, take, length-append}
use Rattle.simd.specs.Basic.{Family, small, large, family_of, is_width, block_bytes, block_bits, digest_bytes}
use Rattle.simd.specs.Constants.{start}
use Rattle.simd.specs.Message.{message, block, message_blocks}
use Rattle.simd.specs.Hash.{digest, compressions}
use Rattle.form.specs.Head.{head_bytes, head}
use Rattle.form.specs.Size.{old_head_bytes}
use Rattle.form.proofs.Current.{old_sizes}
use Rattle.form.proofs.Forming.{length_head, written_width, written_bits}
use Rattle.hash.specs.Open.{limit, first, piece_refusal}
use Rattle.hash.proofs.Feeding.{at_widths, start_length, length_message}
use Rattle.hash.proofs.Refusing.{first_accepted, passed, Accepted, accepted}
use Rattle.hash.proofs.Ignored.{Agree, same_refusal, neither, neither_first, piece_not_3}
use Rattle.checkpoints.specs.Index.{spacing, kept, index_bytes, states, index_of, starts_at, skipped}
use Rattle.checkpoints.specs.Index.{corrected_index, corrected_digest, corrected_compressions}
use Rattle.checkpoints.specs.Calls.{message_refusal, room_refusal, index_refusal, fits, fit_refusal, reindex_refusal}
use Rattle.checkpoints.proofs.Counts.{starts_before, starts_below, starts_in_blocks}
use Rattle.checkpoints.proofs.States.{length_states}
use Rattle.checkpoints.proofs.Heads.{fit, fit_passes}
use Rattle.checkpoints.proofs.Fresh.{fresh_index, fresh_digest}
use Rattle.checkpoints.proofs.Carrying.{carried_over, corrected_fit}

-- A state is kept for exactly the blocks numbered 0, 16, 32 .. all of whose bits the message has.
pub kept_full : (f : Family) (n k : ℕ) → k < kept f n → block_bits f * (spacing * k + 1) ≤ n
unfolding kept
kept_full small n k below = omega arith
kept_full large n k below = omega arith

pub full_kept : (f : Family) (n k : ℕ) → block_bits f * (spacing * k + 1) ≤ n → k < kept f n
unfolding kept
full_kept small n k full = omega arith
full_kept large n k full = omega arith

-- A correction starts at the last kept state at or before the first corrected block, b.
module _ (f : Family) (n b : ℕ) where
  pub starts_kept : (kept f n ≡ 0 → ⊥) → starts_at f n b < kept f n
  starts_kept = starts_below f n b

  pub start_before : skipped f n b ≤ b
  unfolding skipped
  start_before = starts_before f n b

  pub no_state_between : (k : ℕ) → k < kept f n → spacing * k ≤ b → spacing * k ≤ skipped f n b
  unfolding skipped starts_at
  no_state_between k below before = omega arith

  -- Its compressions are the total less the blocks skipped.
  pub skipped_counted : corrected_compressions f n b + skipped f n b ≡ compressions f n
  unfolding corrected_compressions skipped compressions
  skipped_counted = omega (arith, starts_in_blocks f n b)

-- A fresh index fits its message.
pub index_fits : (width : ℕ) (m : List ℕ) → is_width width ≡ true → length m ≤ limit → fits width (length m) (index_of width m) ≡ true
unfolding index_of
index_fits width m known short =
    let f = family_of width in
    let n = length m in
    let kept_states = states f (start width) m (kept f n) in
    let sizes = length_states f (start width) m (start_length width known) (kept f n) in
    fit_passes (record {
      size = omega (arith, length-append (head width n) kept_states, length_head width n, sizes);
      width_read = written_width width n kept_states (at_widths (λ (w : ℕ). w < 256 ^ 2) (lit< tt) (lit< tt) (lit< tt) (lit< tt) width known);
      bits_read = written_bits width n kept_states (omega arith);
    })

-- It fits a message of that length alone.
pub fits_own_length : (width : ℕ) (m : List ℕ) (n : ℕ) → length m ≤ limit → fits width n (index_of width m) ≡ true → length m ≡ n
unfolding index_of
fits_own_length width m n short good = sym (written_bits width (length m) _ (omega arith)) ∙ (fit good).bits_read

-- An index with a head of the old size, whose bit length has 4 bytes, fits no width and no message, whatever its states are.
module _ (f : Family) (k : ℕ) (old : List ℕ) (size : length old ≡ old_head_bytes + block_bytes f * k) where
  old_unfit : (width n b : ℕ) → fit_refusal width n old b ≡ 15
  unfolding fit_refusal fits
  old_unfit width n b =
      let g = family_of width in
      rw (ne_eqb (length old) (index_bytes width n) (λ same. old_sizes f g k (kept g n) (sym size ∙ same)))

  pub old_index_refused : (width : ℕ) (bytes : List ℕ) (count b indexRoom room : ℕ) → message_refusal width bytes count ≡ 0
      → reindex_refusal width bytes count old b indexRoom room ≡ 15
  unfolding reindex_refusal first
  old_index_refused width bytes count b indexRoom room none = rw (none, old_unfit width count b)

-- From the index of an earlier message as long as m and equal to it in all blocks before b, a correction makes what a fresh run of m makes.
pub corrected_fresh : (width : ℕ) → is_width width ≡ true → (earlier m : List ℕ) → length earlier ≡ length m
    → (b : ℕ) → ((j : ℕ) → j < b → block (family_of width) earlier j ≡ block (family_of width) m j)
    → (corrected_index width (index_of width earlier) m b ≡ index_of width m) × (corrected_digest width (index_of width earlier) m b ≡ digest width m)
corrected_fresh width known earlier m size b same =
    (fresh_index width known earlier m size b same, fresh_digest width known earlier m size b same)

-- From any index that fits m, a correction carries over the head and all kept states up to the one that it starts at, and makes an index that fits m.
module _ (width : ℕ) (old m : List ℕ) (b : ℕ) (fit_old : fits width (length m) old ≡ true) where
  pub carried : ((i : ℕ) → get_or old i 0 < 256)
      → take (head_bytes + block_bytes (family_of width) * (starts_at (family_of width) (length m) b + 1)) (corrected_index width old m b)
      ≡ take (head_bytes + block_bytes (family_of width) * (starts_at (family_of width) (length m) b + 1)) old
  carried bytes = carried_over width old m b (fit fit_old) bytes

  pub fits_again : fits width (length m) (corrected_index width old m b) ≡ true
  fits_again = fit_passes (corrected_fit width old m b (fit fit_old))

-- A message that is not refused, and its index, which is no reason to refuse a correction.
module _ (width : ℕ) (bytes : List ℕ) (count : ℕ) (none : message_refusal width bytes count ≡ 0) where
  width_known : is_width width ≡ true
  unfolding message_refusal
  width_known = (passed (is_width width) (piece_refusal 0 bytes count) 0 none).0

  whole : Accepted 0 bytes count
  unfolding message_refusal
  whole = accepted 0 bytes count (passed (is_width width) (piece_refusal 0 bytes count) 0 none).1

  counted : length (message bytes count) ≡ count
  counted = length_message bytes count whole.within

  index_accepted : (b : ℕ) → b ≤ message_blocks (family_of width) count → fit_refusal width count (index_of width (message bytes count)) b ≡ 0
  unfolding fit_refusal
  index_accepted b within =
      let fitting = index_fits width (message bytes count) width_known (omega (arith, counted, whole.short)) in
      rw (rw counted at fitting, le-leb b (message_blocks (family_of width) count) within)

-- The two calls in turn: the index of an earlier message is made, and a message is corrected from it. The correction is refused where a fresh run of
-- the message would be, and otherwise makes the index and the digest of that run.
pub record Corrected (width : ℕ) (earlier bytes : List ℕ) (count b : ℕ) : Type 0 where
  pub answered : (indexRoom room : ℕ)
      → reindex_refusal width bytes count (index_of width (message earlier count)) b indexRoom room ≡ index_refusal width bytes count indexRoom room
  pub index : corrected_index width (index_of width (message earlier count)) (message bytes count) b ≡ index_of width (message bytes count)
  pub digest : corrected_digest width (index_of width (message earlier count)) (message bytes count) b ≡ digest width (message bytes count)

pub correcting : (width : ℕ) (earlier bytes : List ℕ) (count b : ℕ) → message_refusal width earlier count ≡ 0 → message_refusal width bytes count ≡ 0
    → ((j : ℕ) → j < b → block (family_of width) (message earlier count) j ≡ block (family_of width) (message bytes count) j)
    → b ≤ message_blocks (family_of width) count → Corrected width earlier bytes count b
unfolding reindex_refusal index_refusal
correcting width earlier bytes count b one two same within =
    let size = counted width earlier count one ∙ sym (counted width bytes count two) in
    let fresh = corrected_fresh width (width_known width earlier count one) (message earlier count) (message bytes count) size b same in
    let fitting = index_accepted width earlier count one b within in
    record {
      answered = λ indexRoom room. ap (first (message_refusal width bytes count)) (first_accepted _ (room_refusal width count indexRoom room) fitting);
      index = fresh.0;
      digest = fresh.1;
    }

-- What stands past the count of a message is ignored.
module _ (width : ℕ) {count : ℕ} {p q : List ℕ} (a : Agree count p q) where
  same_message : message_refusal width p count ≡ message_refusal width q count
  unfolding message_refusal
  same_message = λ i. cond (is_width width) (same_refusal 0 a i) 1

  pub same_index_refusal : (indexRoom room : ℕ) → index_refusal width p count indexRoom room ≡ index_refusal width q count indexRoom room
  unfolding index_refusal
  same_index_refusal indexRoom room = λ i. first (same_message i) (room_refusal width count indexRoom room)

  pub same_reindex_refusal : (old : List ℕ) (b indexRoom room : ℕ)
      → reindex_refusal width p count old b indexRoom room ≡ reindex_refusal width q count old b indexRoom room
  unfolding reindex_refusal
  same_reindex_refusal old b indexRoom room =
      λ i. first (same_message i) (first (fit_refusal width count old b) (room_refusal width count indexRoom room))

  pub same_index : index_of width (message p count) ≡ index_of width (message q count)
  same_index = ap (index_of width) a.bits

  pub same_corrected_index : (old : List ℕ) (b : ℕ) → corrected_index width old (message p count) b ≡ corrected_index width old (message q count) b
  same_corrected_index old b = ap (λ (m : List ℕ). corrected_index width old m b) a.bits

  pub same_corrected_digest : (old : List ℕ) (b : ℕ) → corrected_digest width old (message p count) b ≡ corrected_digest width old (message q count) b
  same_corrected_digest old b = ap (λ (m : List ℕ). corrected_digest width old m b) a.bits

-- And 3 is never answered.
module _ (width : ℕ) (bytes : List ℕ) (count indexRoom room : ℕ) where
  message_not_3 : message_refusal width bytes count ≡ 3 → ⊥
  unfolding message_refusal
  message_not_3 = neither (is_width width) (piece_not_3 0 bytes count) (λ e. omega arith)

  room_not_3 : room_refusal width count indexRoom room ≡ 3 → ⊥
  unfolding room_refusal
  room_not_3 = neither (leb (index_bytes width count) indexRoom && leb (digest_bytes width) room) (λ e. omega arith) (λ e. omega arith)

  pub index_not_3 : index_refusal width bytes count indexRoom room ≡ 3 → ⊥
  unfolding index_refusal
  index_not_3 = neither_first (message_refusal width bytes count) (room_refusal width count indexRoom room) message_not_3 room_not_3

  pub reindex_not_3 : (old : List ℕ) (b : ℕ) → reindex_refusal width bytes count old b indexRoom room ≡ 3 → ⊥
  unfolding reindex_refusal fit_refusal
  reindex_not_3 old b =
      neither_first (message_refusal width bytes count) (first (fit_refusal width count old b) (room_refusal width count indexRoom room)) message_not_3
      (neither_first (fit_refusal width count old b) (room_refusal width count indexRoom room)
      (neither (fits width count old && leb b (message_blocks (family_of width) count)) (λ e. omega arith) (λ e. omega arith))
      room_not_3)
