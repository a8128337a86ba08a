-- The stored form of a keyed hash: that of the inner hash, and then that of the outer one.
use Rattle.std.specs.Prelude.{cond, Result, List, ◌++◌, ℕ, ◌*◌, ◌/◌, leb, length, take, drop}
use Rattle.simd.specs.Basic.{family_of}
use Rattle.hash.specs.Open.{first}
use Rattle.hash.specs.Form.{form_bytes, form_of, old_form_of, current, restore_answer as restored}
use Rattle.refusals.specs.declared.Refusal.{Refusal}
use Rattle.refusals.specs.Numbers.{number_of}
use Rattle.hmac.specs.Keyed.{Opened, legal, width, opened}
use Rattle.hmac.specs.declared.Hmac.{Hmac}

unfoldable pub keyed_form : Hmac → List ℕ
keyed_form k = form_of k.inner ++ form_of k.outer

-- What was stored while a hash held its length in 32 bits.
unfoldable pub old_keyed_form : Hmac → List ℕ
old_keyed_form k = old_form_of k.inner ++ old_form_of k.outer

-- Store: 5, then 6.
unfoldable pub store_refusal : Hmac → List ℕ → ℕ
store_refusal k out = cond (legal k) (cond (leb (2 * form_bytes (family_of (width k))) (length out)) 0 6) 5

pub record Stored : Type 0 where
  pub hmac : Hmac
  pub refusal : ℕ

-- The answer of `store`, with the keyed hash.
abbrev pub stored_by : {A : Type 0} → Hmac → Result A Refusal → Stored
stored_by k answer = record { hmac = k; refusal = number_of answer }

unfoldable pub store_answer : Hmac → List ℕ → Stored
store_answer k out = record { hmac = k; refusal = store_refusal k out }

-- Restore: the front half as a form, then the back half, then 5 where the two are not those of a keyed hash.
unfoldable pub front : List ℕ → List ℕ
front form = take (length form / 2) form

unfoldable pub back : List ℕ → List ℕ
back form = drop (length form / 2) form

-- The keyed form of today that a keyed form stands for, each half by its own size. Where neither half is refused both are old or both of today.
unfoldable pub current_keyed : List ℕ → List ℕ
current_keyed form = current (front form) ++ current (back form)

unfoldable pub hmac_of : List ℕ → Hmac
hmac_of form = record { inner = (restored (front form)).hash; outer = (restored (back form)).hash }

unfoldable pub keyed_refusal : List ℕ → ℕ
keyed_refusal form = first (restored (front form)).refusal (first (restored (back form)).refusal (cond (legal (hmac_of form)) 0 5))

unfoldable pub restore_answer : List ℕ → Opened
restore_answer form = opened (keyed_refusal form) (hmac_of form)
