-- What stands past the count of a piece is ignored by a keyed hash, whatever it is, and 3 is refused nowhere.
use mathlib.Core.Bool.{cond}
use mathlib.Core.List.{List}
use mathlib.Core.Path.{◌≡◌, refl, sym, ◌∙◌}
use Prim.Native.Nat.{ℕ, zero, suc, ◌*◌}
use native.Mathlib.Omega.{arith}
use lib.Dec.{leb}
use lib.ListN.{length}
use Rattle.simd.specs.Basic.{family_of}
use Rattle.simd.specs.Message.{message}
use Rattle.hash.specs.Form.{form_bytes, restore_answer as restored}
use Rattle.hash.proofs.Ignored.{Agree, same_refusal, neither, neither_first, piece_not_3, restore_not_3 as form_not_3}
use Rattle.hmac.specs.Keyed.{legal, width, feed_refusal, fed, feed_answer}
use Rattle.hmac.specs.Form.{front, back, hmac_of, keyed_refusal, store_refusal, store_answer, restore_answer}
use Rattle.hmac.specs.declared.Hmac.{Hmac}
use Rattle.hmac_theorems.proofs.Forms.{opened_refusal}

pub feed_alike : (k : Hmac) {count : ℕ} {p q : List ℕ} → Agree count p q → feed_answer k p count ≡ feed_answer k q count
unfolding feed_answer feed_refusal
feed_alike k a = λ i. fed (cond (legal k) (same_refusal k.inner.bits a i) 5) k (a.bits i)

pub fed_refusal : (r : ℕ) (k : Hmac) (m : List ℕ) → (fed r k m).refusal ≡ r
unfolding fed
fed_refusal zero k m = refl
fed_refusal (suc r) k m = refl

pub feed_not_3 : (k : Hmac) (piece : List ℕ) (count : ℕ) → (feed_answer k piece count).refusal ≡ 3 → ⊥
unfolding feed_answer feed_refusal
feed_not_3 k piece count e =
    neither (legal k) (piece_not_3 k.inner.bits piece count) (λ e. omega arith) (sym (fed_refusal _ k (message piece count)) ∙ e)

pub restore_not_3 : (form : List ℕ) → (restore_answer form).refusal ≡ 3 → ⊥
unfolding restore_answer keyed_refusal
restore_not_3 form e =
    neither_first (restored (front form)).refusal _ (form_not_3 (front form))
    (neither_first (restored (back form)).refusal _ (form_not_3 (back form))
    (neither (legal (hmac_of form)) (λ (e : 0 ≡ 3). omega arith) (λ (e : 5 ≡ 3). omega arith)))
    (sym (opened_refusal _ (hmac_of form)) ∙ e)

pub store_not_3 : (k : Hmac) (out : List ℕ) → (store_answer k out).refusal ≡ 3 → ⊥
unfolding store_answer store_refusal
store_not_3 k out =
    neither (legal k)
    (neither (leb (2 * form_bytes (family_of (width k))) (length out)) (λ (e : 0 ≡ 3). omega arith) (λ (e : 6 ≡ 3). omega arith))
    (λ (e : 5 ≡ 3). omega arith)
