-- Laws of the hash that stands for a message: it is legal, of the message's width and length, and what it is fed joins the message.
use mathlib.Core.Bool.{true, false}
use mathlib.Core.List.{List, [], ◌++◌}
use mathlib.Core.Path.{◌≡◌, sym, ap, ◌∙◌}
use Prim.Native.Nat.{ℕ, ◌+◌, ◌*◌, ◌≤◌, ◌<◌}
use native.Mathlib.Omega.{arith}
use native.Mathlib.Decide.{dec_le}
use borrow.Author.Tests.{le-leb, lt-leb}
use lib.Dec.{lit<}
use lib.ListN.{length, length-append}
use Rattle.simd.specs.Basic.{is_width}
use Rattle.simd.specs.Message.{message}
use Rattle.laws.proofs.Bits.{bits_append}
use Rattle.hash.specs.Open.{Opened, Fed, limit, legal, advanced, open_answer, open_refusal, opened, piece_refusal, feed_refusal, fed, feed_answer}
use Rattle.hash.specs.declared.Hash.{Hash}
use Rattle.hash.proofs.Feeding.{Whole, fed_whole, length_message, bits_message, at_widths}
use Rattle.hash_theorems.proofs.Held.{long}
use Rattle.hash_theorems.proofs.Advanced.{advanced_append, advanced_none}
use Rattle.hash_theorems.proofs.Theorems.{open_known, first, first_sized, first_legal, after_width, after_bits, after_legal}
use Rattle.commands.specs.Effect.{feeding}
use Rattle.commands.specs.Standing.{Stands, Steps}
use Rattle.commands.specs.declared.Step.{Step}

-- The step that a piece makes.
abbrev pub step_of : Fed → Step
step_of a = record { hash = a.hash; refusal = a.refusal }

module _ (width : ℕ) (known : is_width width ≡ true) where
  -- Opened.
  pub stands_fresh : Stands width [] (open_answer width).hash
  stands_fresh =
      record {
        known = known;
        short = omega arith;
        bits = λ i. omega arith;
        same =
            ap (λ (a : Opened). a.hash) (open_known width known)
            ∙ sym (advanced_none (first width) (first_sized width known) (first_legal width known));
      }

  pub open_accepted : (open_answer width).refusal ≡ 0
  open_accepted = ap (λ (a : Opened). a.refusal) (open_known width known)

pub open_refused : (width : ℕ) → is_width width ≡ false → (open_answer width).refusal ≡ 1
unfolding open_answer open_refusal opened
open_refused width unknown = rw unknown

module _ {width : ℕ} {m : List ℕ} {hash : Hash} (s : Stands width m hash) where
  pub stands_width : hash.width ≡ width
  stands_width = ap (λ (h : Hash). h.width) s.same ∙ after_width width s.known m s.bits

  pub stands_open : hash.width ≡ 0 → ⊥
  stands_open none =
      at_widths (λ (w : ℕ). w ≡ 0 → ⊥) (λ e. omega arith) (λ e. omega arith) (λ e. omega arith) (λ e. omega arith) width s.known
      (sym stands_width ∙ none)

  stands_bits : hash.bits ≡ length m
  stands_bits = ap (λ (h : Hash). h.bits) s.same ∙ after_bits width s.known m s.bits

  pub stands_legal : legal hash ≡ true
  stands_legal = ap legal s.same ∙ after_legal width s.known m s.bits

  -- Fed.
  module _ (piece : List ℕ) (count : ℕ) (whole : Whole piece count) where
    joins :
        length m + count ≤ limit
        → ((feed_answer hash piece count).refusal ≡ 0) × Stands width (m ++ message piece count) (feed_answer hash piece count).hash
    joins room =
        let size = length_message piece count whole in
        let accepted = fed_whole hash piece count stands_legal whole (omega (arith, stands_bits)) in (
          ap (λ (a : Fed). a.refusal) accepted,
          record {
            known = s.known;
            short = omega (arith, length-append m (message piece count));
            bits = bits_append m (message piece count) s.bits (bits_message piece count);
            same =
                ap (λ (a : Fed). a.hash) accepted
                ∙ ap (λ (h : Hash). advanced h (message piece count)) s.same
                ∙ advanced_append (first width) (long (first_sized width s.known)) m (message piece count) s.bits;
          },
        )

    too_long : limit < length m + count → (feed_answer hash piece count).refusal ≡ 4
    unfolding feed_answer fed feed_refusal piece_refusal
    too_long over =
        let long : limit < hash.bits + count = omega (arith, stands_bits) in
        rw (stands_legal, le-leb count (8 * length piece) whole, lt-leb (hash.bits + count) limit long)

    steps_by : Steps (feeding width m (message piece count)) (step_of (feed_answer hash piece count))
    unfolding feeding
    steps_by =
        let size = length_message piece count whole in
        elim (dec_le (length m + count) limit) [
          | yes room ↦ rw (size, le-leb (length m + count) limit room) (joins room)
          | no over ↦ rw (size, lt-leb (length m + count) limit (omega arith)) (too_long (omega arith), lit< tt)
        ]

    pub feed_steps : (a : Fed) → a ≡ feed_answer hash piece count → Steps (feeding width m (message piece count)) (step_of a)
    feed_steps a e = rw e steps_by
