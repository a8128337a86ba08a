-- What stands past the count of a piece is ignored by simd_hmac_feed too, whatever form it is handed, and 3 is no answer of it.
use mathlib.Core.List.{List}
use mathlib.Core.Path.{◌≡◌}
use Prim.Native.Nat.{ℕ}
use Rattle.hash.specs.Open.{first, written}
use Rattle.hash.proofs.Ignored.{Agree, neither_first}
use Rattle.hmac.specs.Keyed.{feed_answer}
use Rattle.hmac.specs.Form.{keyed_form, store_answer, restore_answer}
use Rattle.hmac_theorems.proofs.Ignored.{feed_alike, feed_not_3, restore_not_3, store_not_3}
use Rattle.simd_c_forms.specs.Calls.{stored}
use Rattle.simd_c_hmac.specs.Calls.{fed_from, feed_call}
use Rattle.simd_c_hmac_theorems.proofs.Theorems.{feed_form}

pub form_alike : (form : List ℕ) {count : ℕ} {p q : List ℕ} → Agree count p q
    → feed_form form (record { bytes = p; count = count }) ≡ feed_form form (record { bytes = q; count = count })
unfolding feed_form feed_call fed_from
form_alike form a =
    λ i.
    let fed = feed_alike (restore_answer form).hmac a i in
    let refusal = first (restore_answer form).refusal (first fed.refusal (store_answer fed.hmac form).refusal) in
    record { left = written refusal (keyed_form fed.hmac) form; blocks = stored refusal fed.blocks 0; refusal = refusal }

pub call_not_3 : (form piece : List ℕ) (count : ℕ) → feed_call form piece count ≡ 3 → ⊥
unfolding feed_call fed_from
call_not_3 form piece count =
    neither_first (restore_answer form).refusal _ (restore_not_3 form)
    (neither_first (feed_answer (restore_answer form).hmac piece count).refusal _ (feed_not_3 (restore_answer form).hmac piece count)
    (store_not_3 (feed_answer (restore_answer form).hmac piece count).hmac form))
