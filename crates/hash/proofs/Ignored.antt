-- What stands past the count of a piece is ignored: no refusal is 3, and two pieces that agree up to a count are fed alike, to every hash.
use mathlib.Core.Bool.{Bool, true, false, cond}
use mathlib.Core.List.{List}
use mathlib.Core.Path.{◌≡◌, refl, sym, ap, ◌∙◌}
use Prim.Native.Nat.{ℕ, zero, suc, ◌+◌, ◌*◌, ◌%◌, min}
use native.Mathlib.Decide.{dec_lt}
use native.Mathlib.Omega.{arith}
use borrow.Author.Tests.{le-leb, lt-leb}
use lib.Dec.{leb, eqb}
use lib.ListN.{length, drop, length-take}
use Rattle.simd.specs.Basic.{is_width, block_bytes, block_bits}
use Rattle.simd.specs.Message.{bits_of, message}
use Rattle.laws.proofs.Bits.{length_bits_of}
use Rattle.bits.specs.Zero.{clear}
use Rattle.form.specs.Head.{head_bytes, form_width, form_bits}
use Rattle.hash.specs.Open.{limit, family, legal, first, opened, piece_refusal, feed_refusal, fed, feed_answer}
use Rattle.hash.specs.Form.{form_bytes, form_family, current, hash_of, store_refusal, store_answer, restore_refusal, restore_answer}
use Rattle.hash.specs.declared.Hash.{Hash}

-- Two pieces agree up to a count. If one has fewer bits, so has the other.
pub record Agree (count : ℕ) (p q : List ℕ) : Type 0 where
  pub bits : message p count ≡ message q count

held : (p : List ℕ) (count : ℕ) → length (message p count) ≡ min count (8 * length p)
unfolding message
held p count = length-take count (bits_of p) ∙ ap (min count) (length_bits_of p)

pub same_refusal : (n : ℕ) {count : ℕ} {p q : List ℕ} → Agree count p q → piece_refusal n p count ≡ piece_refusal n q count
unfolding piece_refusal
same_refusal n {count} {p} {q} a =
    let sizes : min count (8 * length p) ≡ min count (8 * length q) = sym (held p count) ∙ ap length a.bits ∙ held q count in
    elim (dec_lt (8 * length p) count) [
      | yes above ↦ rw (lt-leb count (8 * length p) above, lt-leb count (8 * length q) (omega arith))
      | no within ↦ rw (le-leb count (8 * length p) (omega arith), le-leb count (8 * length q) (omega arith))
    ]

pub feed_alike : (h : Hash) {count : ℕ} {p q : List ℕ} → Agree count p q → feed_answer h p count ≡ feed_answer h q count
unfolding feed_answer feed_refusal
feed_alike h {count} {p} {q} a = λ i. fed (cond (legal h) (same_refusal h.bits a i) 5) h (a.bits i)

-- A choice of two numbers, and the first of two refusals, are none that neither is.
pub neither : (b : Bool) {x y n : ℕ} → (x ≡ n → ⊥) → (y ≡ n → ⊥) → cond b x y ≡ n → ⊥
neither true one other = one
neither false one other = other

pub neither_first : (r s : ℕ) {n : ℕ} → (r ≡ n → ⊥) → (s ≡ n → ⊥) → first r s ≡ n → ⊥
unfolding first
neither_first zero s one other = other
neither_first (suc r) s one other = one

pub piece_not_3 : (n : ℕ) (piece : List ℕ) (count : ℕ) → piece_refusal n piece count ≡ 3 → ⊥
unfolding piece_refusal
piece_not_3 n piece count =
    neither (leb count (8 * length piece)) (neither (leb (n + count) limit) (λ e. omega arith) (λ e. omega arith)) (λ e. omega arith)

pub fed_refusal : (r : ℕ) (h : Hash) (m : List ℕ) → (fed r h m).refusal ≡ r
unfolding fed
fed_refusal zero h m = refl
fed_refusal (suc r) h m = refl

pub feed_not_3 : (h : Hash) (piece : List ℕ) (count : ℕ) → (feed_answer h piece count).refusal ≡ 3 → ⊥
unfolding feed_answer feed_refusal
feed_not_3 h piece count e =
    neither (legal h) (piece_not_3 h.bits piece count) (λ e. omega arith) (sym (fed_refusal _ h (message piece count)) ∙ e)

-- Nor is 3 a refusal of a stored form, or of storing.
pub opened_refusal : (r : ℕ) (h : Hash) → (opened r h).refusal ≡ r
unfolding opened
opened_refusal zero h = refl
opened_refusal (suc r) h = refl

form_not_3 : (form : List ℕ) → restore_refusal form ≡ 3 → ⊥
unfolding restore_refusal
form_not_3 form =
    neither (leb 2 (length form))
    (neither (is_width (form_width form))
    (neither (eqb (length form) (form_bytes (form_family form)))
    (neither (clear (form_bits form % block_bits (form_family form)) (drop (head_bytes + block_bytes (form_family form)) form))
    (λ (e : 0 ≡ 3). omega arith) (λ (e : 9 ≡ 3). omega arith))
    (λ (e : 8 ≡ 3). omega arith))
    (λ (e : 1 ≡ 3). omega arith))
    (λ (e : 8 ≡ 3). omega arith)

pub restore_not_3 : (form : List ℕ) → (restore_answer form).refusal ≡ 3 → ⊥
unfolding restore_answer
restore_not_3 form e = form_not_3 (current form) (sym (opened_refusal _ (hash_of (current form))) ∙ e)

pub store_not_3 : (h : Hash) (out : List ℕ) → (store_answer h out).refusal ≡ 3 → ⊥
unfolding store_answer store_refusal
store_not_3 h out =
    neither (legal h) (neither (leb (form_bytes (family h)) (length out)) (λ (e : 0 ≡ 3). omega arith) (λ (e : 6 ≡ 3). omega arith))
    (λ (e : 5 ≡ 3). omega arith)
