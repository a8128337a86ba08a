-- What the calls that hold the stored form of a keyed hash answer, and what they leave behind in what they were lent.
use Rattle.std.specs.Prelude.{Bool, cond, List, ℕ}
use Rattle.hash.specs.Open.{first}
use Rattle.hmac.specs.Keyed.{Fed, open_answer, feed_answer, take_answer, check_answer}
use Rattle.hmac.specs.Form.{store_answer, restore_answer}
use Rattle.hmac.specs.declared.Hmac.{Hmac}

-- simd_hmac_open: the keyed hash of no message, stored.
unfoldable pub opened_hmac : ℕ → List ℕ → Hmac
opened_hmac width key = (open_answer width key).hmac

unfoldable pub open_call : ℕ → List ℕ → List ℕ → ℕ
open_call width key form = first (open_answer width key).refusal (store_answer (opened_hmac width key) form).refusal

-- simd_hmac_feed: the form is restored, fed and stored again.
unfoldable pub fed_from : List ℕ → List ℕ → ℕ → Fed
fed_from form piece bits = feed_answer (restore_answer form).hmac piece bits

unfoldable pub feed_call : List ℕ → List ℕ → ℕ → ℕ
feed_call form piece bits =
    first (restore_answer form).refusal
    (first (fed_from form piece bits).refusal (store_answer (fed_from form piece bits).hmac form).refusal)

-- simd_hmac_take: the form is restored and taken.
unfoldable pub take_call : List ℕ → List ℕ → ℕ
take_call form out = first (restore_answer form).refusal (take_answer (restore_answer form).hmac out).refusal

-- simd_hmac_check: the form is restored and checked; 1 stands for yes.
unfoldable pub check_call : List ℕ → List ℕ → ℕ
check_call form given = first (restore_answer form).refusal (check_answer (restore_answer form).hmac given).refusal

unfoldable pub yes : Bool → ℕ
yes right = cond right 1 0
