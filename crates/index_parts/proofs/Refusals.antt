-- The ways out of each check, in the order of the code.
use mathlib.Core.Bool.{true, false}
use mathlib.Core.List.{List}
use mathlib.Core.Path.{◌≡◌, sym, ◌∙◌}
use Prim.Native.Nat.{ℕ, ◌<◌, ◌≤◌}
use borrow.Author.Tests.{le-leb, lt-leb, eq-eqb, ne_eqb}
use lib.Dec.{eqb}
use lib.ListN.{length}
use Rattle.simd.specs.Basic.{family_of, is_width, digest_bytes}
use Rattle.simd.specs.Message.{message_blocks}
use Rattle.form.specs.Head.{form_width, form_bits}
use Rattle.hash.specs.Open.{piece_refusal}
use Rattle.hash.proofs.Refusing.{first_refused, first_accepted}
use Rattle.checkpoints.specs.Index.{index_bytes}
use Rattle.checkpoints.specs.Calls.{message_refusal, room_refusal, index_refusal, fits, fit_refusal, reindex_refusal}

-- A message at a width.
pub known_width : (width : ℕ) (bytes : List ℕ) (count : ℕ) → is_width width ≡ true → piece_refusal 0 bytes count ≡ message_refusal width bytes count
unfolding message_refusal
known_width width bytes count known = rw known

pub unknown_width : (width : ℕ) (bytes : List ℕ) (count : ℕ) → is_width width ≡ false → 1 ≡ message_refusal width bytes count
unfolding message_refusal
unknown_width width bytes count unknown = rw unknown

-- The two outputs.
module _ (width n indexRoom room : ℕ) where
  pub index_short : indexRoom < index_bytes width n → 6 ≡ room_refusal width n indexRoom room
  unfolding room_refusal
  index_short short = rw (lt-leb (index_bytes width n) indexRoom short)

  module _ (enough : index_bytes width n ≤ indexRoom) where
    pub digest_short : room < digest_bytes width → 6 ≡ room_refusal width n indexRoom room
    unfolding room_refusal
    digest_short short = rw (le-leb (index_bytes width n) indexRoom enough, lt-leb (digest_bytes width) room short)

    pub room_enough : digest_bytes width ≤ room → 0 ≡ room_refusal width n indexRoom room
    unfolding room_refusal
    room_enough long = rw (le-leb (index_bytes width n) indexRoom enough, le-leb (digest_bytes width) room long)

-- The old index and the block's number.
module _ (width n : ℕ) (index : List ℕ) where
  pub other_size : (length index ≡ index_bytes width n → ⊥) → false ≡ fits width n index
  unfolding fits
  other_size other = rw (ne_eqb (length index) (index_bytes width n) other)

  module _ (size : length index ≡ index_bytes width n) where
    pub other_width : (form_width index ≡ width → ⊥) → false ≡ fits width n index
    unfolding fits
    other_width other = rw (eq-eqb (length index) (index_bytes width n) size, ne_eqb (form_width index) width other)

    pub length_decides : form_width index ≡ width → eqb (form_bits index) n ≡ fits width n index
    unfolding fits
    length_decides same = rw (eq-eqb (length index) (index_bytes width n) size, eq-eqb (form_width index) width same)

  module _ (b : ℕ) where
    pub unfit : fits width n index ≡ false → 15 ≡ fit_refusal width n index b
    unfolding fit_refusal
    unfit bad = rw bad

    pub block_above : fits width n index ≡ true → message_blocks (family_of width) n < b → 15 ≡ fit_refusal width n index b
    unfolding fit_refusal
    block_above good above = rw (good, lt-leb b (message_blocks (family_of width) n) above)

    pub block_within : fits width n index ≡ true → b ≤ message_blocks (family_of width) n → 0 ≡ fit_refusal width n index b
    unfolding fit_refusal
    block_within good within = rw (good, le-leb b (message_blocks (family_of width) n) within)

-- One check behind the other.
module _ (width : ℕ) (bytes : List ℕ) (count : ℕ) (r : ℕ) (same : r ≡ message_refusal width bytes count) where
  module _ (indexRoom room : ℕ) where
    pub index_refused : (r ≡ 0 → ⊥) → r ≡ index_refusal width bytes count indexRoom room
    unfolding index_refusal
    index_refused some = same ∙ sym (first_refused (message_refusal width bytes count) _ (λ e. some (same ∙ e)))

    pub index_room : r ≡ 0 → room_refusal width count indexRoom room ≡ index_refusal width bytes count indexRoom room
    unfolding index_refusal
    index_room none = sym (first_accepted (message_refusal width bytes count) _ (sym same ∙ none))

    module _ (old : List ℕ) (b : ℕ) where
      pub reindex_refused : (r ≡ 0 → ⊥) → r ≡ reindex_refusal width bytes count old b indexRoom room
      unfolding reindex_refusal
      reindex_refused some = same ∙ sym (first_refused (message_refusal width bytes count) _ (λ e. some (same ∙ e)))

      module _ (none : r ≡ 0) (u : ℕ) (told : u ≡ fit_refusal width count old b) where
        pub reindex_unfit : (u ≡ 0 → ⊥) → u ≡ reindex_refusal width bytes count old b indexRoom room
        unfolding reindex_refusal
        reindex_unfit some =
            told ∙ sym (first_refused (fit_refusal width count old b) _ (λ e. some (told ∙ e)))
            ∙ sym (first_accepted (message_refusal width bytes count) _ (sym same ∙ none))

        pub reindex_room : u ≡ 0 → room_refusal width count indexRoom room ≡ reindex_refusal width bytes count old b indexRoom room
        unfolding reindex_refusal
        reindex_room fitting =
            sym (first_accepted (fit_refusal width count old b) _ (sym told ∙ fitting))
            ∙ sym (first_accepted (message_refusal width bytes count) _ (sym same ∙ none))
