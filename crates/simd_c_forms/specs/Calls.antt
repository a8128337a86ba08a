-- What the calls that hold a stored form answer, and what they leave behind in what they were lent.
use Rattle.std.specs.Prelude.{List, ℕ}
use Rattle.hash.specs.Open.{Opened, Fed, first, open_answer, feed_answer, take_answer}
use Rattle.hash.specs.Form.{store_answer, restore_answer}
use Rattle.hash.specs.declared.Hash.{Hash}
unfoldable pub use Rattle.hash.specs.Open.{stored}

-- An answer with a hash, which is then stored.
abbrev pub opened_call : Opened → List ℕ → ℕ
opened_call opened out = first opened.refusal (store_answer opened.hash out).refusal

-- simd_open: the empty hash, stored.
unfoldable pub opened_hash : ℕ → Hash
opened_hash width = (open_answer width).hash

unfoldable pub open_call : ℕ → List ℕ → ℕ
open_call width form = opened_call (open_answer width) form

-- simd_feed: the form is restored, fed and stored again.
unfoldable pub fed_from : List ℕ → List ℕ → ℕ → Fed
fed_from form piece bits = feed_answer (restore_answer form).hash piece bits

unfoldable pub feed_call : List ℕ → List ℕ → ℕ → ℕ
feed_call form piece bits =
    first (restore_answer form).refusal
    (first (fed_from form piece bits).refusal (store_answer (fed_from form piece bits).hash form).refusal)

-- simd_restore: the form is restored, and stored in another place.
unfoldable pub restore_call : List ℕ → List ℕ → ℕ
restore_call form out = opened_call (restore_answer form) out

-- simd_take: the form is restored and taken.
unfoldable pub take_call : List ℕ → List ℕ → ℕ
take_call form out = first (restore_answer form).refusal (take_answer (restore_answer form).hash out).refusal
