-- What stands past the count of a piece is ignored by simd_feed too, whatever form it is handed, and 3 is no answer of it.
use mathlib.Core.List.{List}
use mathlib.Core.Path.{◌≡◌}
use Prim.Native.Nat.{ℕ}
use Rattle.hash.specs.Open.{first, feed_answer, written}
use Rattle.hash.specs.Form.{form_of, store_answer, restore_answer}
use Rattle.hash.proofs.Ignored.{Agree, feed_alike, neither_first, feed_not_3, restore_not_3, store_not_3}
use Rattle.simd_c_forms.specs.Calls.{stored, fed_from, feed_call}
use Rattle.simd_c_theorems.proofs.Theorems.{feed_form}

pub form_alike : (form : List ℕ) {count : ℕ} {p q : List ℕ} → Agree count p q
    → feed_form form (record { bytes = p; count = count }) ≡ feed_form form (record { bytes = q; count = count })
unfolding feed_form feed_call fed_from
form_alike form a =
    λ i.
    let fed = feed_alike (restore_answer form).hash a i in
    let refusal = first (restore_answer form).refusal (first fed.refusal (store_answer fed.hash form).refusal) in
    record { left = written refusal (form_of fed.hash) form; blocks = stored refusal fed.blocks 0; refusal = refusal }

pub call_not_3 : (form piece : List ℕ) (count : ℕ) → feed_call form piece count ≡ 3 → ⊥
unfolding feed_call fed_from
call_not_3 form piece count =
    neither_first (restore_answer form).refusal _ (restore_not_3 form)
    (neither_first (feed_answer (restore_answer form).hash piece count).refusal _ (feed_not_3 (restore_answer form).hash piece count)
    (store_not_3 (feed_answer (restore_answer form).hash piece count).hash form))
