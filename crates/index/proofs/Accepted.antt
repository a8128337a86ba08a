-- What holds of a call that is not refused, and what each kind of call leaves in what it was lent.
use mathlib.Core.Bool.{true, ◌&&◌}
use mathlib.Core.List.{List}
use mathlib.Core.Path.{◌≡◌, sym, ap, ◌∙◌}
use Prim.Native.Nat.{ℕ, ◌≤◌}
use borrow.Author.Tests.{leb-true}
use lib.Dec.{leb}
use Rattle.simd.specs.Basic.{family_of, is_width, digest_bytes}
use Rattle.simd.specs.Message.{message_blocks}
use Rattle.bits.proofs.Zeros.{and_left, and_right}
use Rattle.hash.specs.Open.{piece_refusal, written, stored}
use Rattle.hash.proofs.Refusing.{written_refused, stored_refused, stored_accepted}
use Rattle.hash.proofs.Refusing.{passed, both_passed, Accepted as MessageAccepted, accepted as message-accepted}
use Rattle.checkpoints.specs.Index.{index_bytes}
use Rattle.checkpoints.specs.Calls.{message_refusal, room_refusal, index_refusal, fits, fit_refusal, reindex_refusal}

-- Refused, all stays; else both outputs and the number are written.
pub nothing_written : {r told : ℕ} → r ≡ told → (r ≡ 0 → ⊥) → (x index y out : List ℕ) (c blocks : ℕ)
    → (r ≡ told) × ((index ≡ written told x index) × ((out ≡ written told y out) × (blocks ≡ stored told c blocks)))
nothing_written {told = told} same some x index y out c blocks =
    let refused : told ≡ 0 → ⊥ = λ e. some (same ∙ e) in
    (same, (sym (written_refused told x index refused), (sym (written_refused told y out refused), sym (stored_refused told c blocks refused))))

pub all_written : {told : ℕ} → 0 ≡ told → (x index y out : List ℕ) (c blocks : ℕ) {index' out' : List ℕ} {blocks' : ℕ}
    → index' ≡ written 0 x index → out' ≡ written 0 y out → blocks' ≡ c
    → (0 ≡ told) × ((index' ≡ written told x index) × ((out' ≡ written told y out) × (blocks' ≡ stored told c blocks)))
all_written {told} none x index y out c blocks one two three =
    let index_told = one ∙ ap (λ (r : ℕ). written r x index) none in
    let out_told = two ∙ ap (λ (r : ℕ). written r y out) none in
    (none, (index_told, (out_told, three ∙ sym (stored_accepted told c blocks (sym none)))))

pub record Accepted (width : ℕ) (bytes : List ℕ) (count indexRoom room : ℕ) : Type 0 where
  pub known : is_width width ≡ true
  pub whole : MessageAccepted 0 bytes count
  pub index_room : index_bytes width count ≤ indexRoom
  pub digest_room : digest_bytes width ≤ room

module _ (width : ℕ) (bytes : List ℕ) (count indexRoom room : ℕ) where
  both_accepted : message_refusal width bytes count ≡ 0 → room_refusal width count indexRoom room ≡ 0 → Accepted width bytes count indexRoom room
  unfolding message_refusal room_refusal
  both_accepted told enough =
      let one = passed (is_width width) (piece_refusal 0 bytes count) 0 told in
      let index = leb (index_bytes width count) indexRoom in
      let digest = leb (digest_bytes width) room in
      let two = passed (index && digest) 0 5 enough in
      record {
        known = one.0;
        whole = message-accepted 0 bytes count one.1;
        index_room = leb-true (index_bytes width count) indexRoom (and_left index digest two.0);
        digest_room = leb-true (digest_bytes width) room (and_right index digest two.0);
      }

  pub accepted : {r : ℕ} → r ≡ index_refusal width bytes count indexRoom room → r ≡ 0 → Accepted width bytes count indexRoom room
  unfolding index_refusal
  accepted same none =
      let two = both_passed (message_refusal width bytes count) (room_refusal width count indexRoom room) (sym same ∙ none) in
      both_accepted two.0 two.1

  pub corrects : (old : List ℕ) (b : ℕ) {r : ℕ} → r ≡ reindex_refusal width bytes count old b indexRoom room → r ≡ 0
      → Accepted width bytes count indexRoom room × (fits width count old ≡ true)
  unfolding reindex_refusal fit_refusal
  corrects old b same none =
      let two = both_passed (message_refusal width bytes count) _ (sym same ∙ none) in
      let three = both_passed (fit_refusal width count old b) (room_refusal width count indexRoom room) two.1 in
      let within = leb b (message_blocks (family_of width) count) in
      (both_accepted two.0 three.1, and_left (fits width count old) within (passed (fits width count old && within) 0 14 three.0).0)
