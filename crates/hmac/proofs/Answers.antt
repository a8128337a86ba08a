-- Laws of whole answers: what open, feed, take and check have put together is what the definitions say.
use mathlib.Core.Bool.{true, false, cond}
use mathlib.Core.List.{List}
use mathlib.Core.Path.{◌≡◌, refl, sym, ap, ◌∙◌}
use Prim.Native.Nat.{ℕ, zero, suc, ◌+◌, ◌*◌, ◌-◌, ◌≤◌}
use native.Mathlib.Omega.{arith}
use borrow.Author.Tests.{leb-true}
use lib.Dec.{leb}
use lib.ListN.{length, take}
use Rattle.simd.specs.Basic.{family_of, is_width, block_bytes, digest_bytes}
use Rattle.simd.specs.Message.{message}
use Rattle.simd.specs.Hash.{compressions}
use Rattle.bits.specs.Zero.{padded}
use Rattle.std.specs.Prelude.{Result, Ok, Err}
use Rattle.refusals.specs.declared.Refusal.{Refusal}
use Rattle.refusals.specs.Numbers.{number}
use Rattle.hash.specs.Open.{Fed as HashFed, limit, family, used, fed as hashFed, fed_by as hashFed_by, feed_refusal as hashRefusal, feed_answer as hashAnswer, written}
use Rattle.hash.specs.declared.Hash.{Hash}
use Rattle.hash.proofs.Refusing.{passed, written_refused}
use Rattle.pairs.specs.Lists.{equal}
use Rattle.hmac_key.specs.Hmac.{ipad, opad, key_block, masked}
use Rattle.hmac_key.specs.Refusal.{key_refusal}
use Rattle.hmac_key.proofs.Bytes.{not_0}
use Rattle.hmac_key.proofs.KeyBlock.{masked_front}
use Rattle.hmac_parts.specs.Keyed.{begun, keyed, tag_from}
use Rattle.hmac_parts.proofs.Keyed.{keyed_facts}
use Rattle.hmac.specs.Keyed.{Opened, Fed, Taken, Checked, legal, width, no_hmac, opened, opened_by, opening, open_answer, feed_refusal, fed, fed_by, feed_answer}
use Rattle.hmac.specs.Keyed.{tag_of, take_refusal, taken, take_answer, check_answer}
use Rattle.hmac.specs.declared.Hmac.{Hmac}

-- Opened.
pub refused_none : (r : ℕ) (k : Hmac) → (r ≡ 0 → ⊥) → record { hmac = no_hmac; refusal = r } ≡ opened r k
unfolding opened
refused_none zero k some = absurd (some refl)
refused_none (suc r) k some = refl

pub record Accepted (w : ℕ) (key : List ℕ) : Type 0 where
  pub known : is_width w ≡ true
  pub short : 8 * length key ≤ limit

module _ (w : ℕ) (key : List ℕ) where
  pub open_refused : (r : Refusal) → number r ≡ key_refusal w (length key) → opened_by (Err r) ≡ open_answer w key
  unfolding open_answer
  open_refused r same = refused_none (number r) (opening w key) (not_0 r) ∙ ap (λ (n : ℕ). opened n (opening w key)) same

  -- The block masked, a hash begun with it.
  pub begun_with : {h : Hash} {block m : List ℕ} (pad size : ℕ) → block ≡ padded 128 (key_block w key) → m ≡ masked pad block
      → size ≡ block_bytes (family_of w) → h ≡ begun w (take size m) → h ≡ begun w (masked pad (key_block w key))
  begun_with pad size filled mask sized begin =
      begin ∙ ap (λ (l : List ℕ). begun w (take size l)) (mask ∙ ap (masked pad) filled) ∙ ap (begun w) (masked_front w key pad size sized)

  module _ (same : 0 ≡ key_refusal w (length key)) where
    pub open_accepted : Accepted w key
    unfolding key_refusal
    open_accepted =
        let one = passed (is_width w) _ 0 (sym same) in
        record { known = one.0; short = leb-true (8 * length key) limit (passed (leb (8 * length key) limit) 0 3 one.1).0 }

    pub open_answered : {inner outer : Hash} → inner ≡ begun w (masked ipad (key_block w key)) → outer ≡ begun w (masked opad (key_block w key))
        → opened_by (Ok (record { inner = inner; outer = outer })) ≡ open_answer w key
    unfolding open_answer opened opening
    open_answered first second =
        rw (sym same) (λ i. record { hmac = record { inner = first i; outer = second i }; refusal = 0 })

-- Fed.
fed_both : (r : ℕ) (k : Hmac) (m : List ℕ)
    → record {
      hmac = record { inner = (hashFed r k.inner m).hash; outer = k.outer };
      blocks = (hashFed r k.inner m).blocks;
      refusal = (hashFed r k.inner m).refusal;
    }
    ≡ fed r k m
unfolding hashFed fed
fed_both zero k m = refl
fed_both (suc r) k m = refl

module _ (k : Hmac) (piece : List ℕ) (count : ℕ) where
  pub feed_illegal : keyed k.inner k.outer ≡ false → record { hmac = k; blocks = 0; refusal = 5 } ≡ feed_answer k piece count
  unfolding feed_answer feed_refusal legal fed
  feed_illegal bad = rw bad

  same_refusal : keyed k.inner k.outer ≡ true → hashRefusal k.inner piece count ≡ feed_refusal k piece count
  unfolding hashRefusal feed_refusal legal
  same_refusal good = rw (good, (keyed_facts k.inner k.outer good).inner_legal)

  pub feed_answered : keyed k.inner k.outer ≡ true → {a : HashFed} → a ≡ hashAnswer k.inner piece count
      → record { hmac = record { inner = a.hash; outer = k.outer }; blocks = a.blocks; refusal = a.refusal } ≡ feed_answer k piece count
  unfolding hashAnswer feed_answer
  feed_answered good {a} e =
      (λ i. record { hmac = record { inner = (e i).hash; outer = k.outer }; blocks = (e i).blocks; refusal = (e i).refusal })
      ∙ fed_both (hashRefusal k.inner piece count) k (message piece count)
      ∙ ap (λ (r : ℕ). fed r k (message piece count)) (same_refusal good)

-- What a feed of the inner hash answers is what the keyed one answers.
pub fed_inner : (inner outer : Hash) (r : Result ℕ Refusal)
    → fed_by (record { inner = inner; outer = outer }) r
    ≡ record {
      hmac = record { inner = (hashFed_by inner r).hash; outer = outer };
      blocks = (hashFed_by inner r).blocks;
      refusal = (hashFed_by inner r).refusal;
    }
fed_inner inner outer (Ok n) = refl
fed_inner inner outer (Err r) = refl

-- Taken.
taken_refused : (r : ℕ) (k : Hmac) → (r ≡ 0 → ⊥) → record { hmac = k; blocks = 0; refusal = r } ≡ taken r k
unfolding taken
taken_refused zero k some = absurd (some refl)
taken_refused (suc r) k some = refl

module _ (k : Hmac) (out : List ℕ) (r : ℕ)
    (same : r ≡ cond (keyed k.inner k.outer) (cond (leb (digest_bytes (width k)) (length out)) 0 6) 5) where
  take_refusal_lem : r ≡ take_refusal k out
  unfolding take_refusal legal
  take_refusal_lem = same

  pub take_refused : (r ≡ 0 → ⊥) → (record { hmac = k; blocks = 0; refusal = r } ≡ take_answer k out) × (out ≡ written (take_refusal k out) (tag_of k) out)
  unfolding take_answer
  take_refused some = (
    taken_refused r k some ∙ ap (λ (r : ℕ). taken r k) take_refusal_lem,
    sym (written_refused (take_refusal k out) (tag_of k) out (λ e. some (take_refusal_lem ∙ e))),
  )

  pub take_facts : r ≡ 0 → (keyed k.inner k.outer ≡ true) × (digest_bytes (width k) ≤ length out)
  take_facts none =
      let one = passed (keyed k.inner k.outer) _ 4 (sym same ∙ none) in
      (one.0, leb-true (digest_bytes (width k)) (length out) (passed (leb (digest_bytes (width k)) (length out)) 0 5 one.1).0)

  pub take_answered : r ≡ 0 → {blocks : ℕ} {left : List ℕ} → left ≡ written 0 (tag_from k.inner k.outer) out
      → blocks ≡ compressions (family k.inner) (used k.inner) + 2
      → (record { hmac = k; blocks = blocks; refusal = r } ≡ take_answer k out) × (left ≡ written (take_refusal k out) (tag_of k) out)
  unfolding take_answer taken
  take_answered none wrote count =
      let accepted = sym take_refusal_lem ∙ none in
      rw accepted ((λ i. record { hmac = k; blocks = count i; refusal = none i }), wrote)

-- Checked.
module _ (k : Hmac) (given : List ℕ) where
  pub check_illegal : keyed k.inner k.outer ≡ false → record { hmac = k; right = false; refusal = 5 } ≡ check_answer k given
  unfolding check_answer legal
  check_illegal bad = rw bad

  pub check_answered : keyed k.inner k.outer ≡ true → {right : _} → right ≡ equal given (tag_from k.inner k.outer)
      → record { hmac = k; right = right; refusal = 0 } ≡ check_answer k given
  unfolding check_answer legal
  check_answered good e = rw good (λ i. record { hmac = k; right = e i; refusal = 0 })
