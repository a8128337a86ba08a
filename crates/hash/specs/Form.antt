-- The stored form of a hash, elsewhere a serialized hashing context. When a byte string is one stands in the crate `hash_parts`, and what a form of
-- the old size stands for, `current`, in the crate `form`.
use Rattle.std.specs.Prelude.{cond, Result, List, ◌++◌, ℕ, ◌+◌, leb, length, take, drop}
use Rattle.simd.specs.Basic.{block_bytes, state_words, words_of, bytes_of}
use Rattle.bits.specs.Zero.{padded}
use Rattle.form.specs.Head.{head_bytes, head, form_width, form_bits}
use Rattle.form.specs.Size.{old_head}
use Rattle.refusals.specs.declared.Refusal.{Refusal}
use Rattle.refusals.specs.Numbers.{number_of}
use Rattle.hash.specs.Open.{Opened, family, legal, reached, opened}
use Rattle.hash.specs.declared.Hash.{Hash}
pub use Rattle.form.specs.Size.{form_bytes, old_form_bytes, form_family}
unfoldable pub use Rattle.form.specs.Size.{widened, current}
unfoldable pub use Rattle.hash_parts.specs.Form.{restore_refusal}

unfoldable pub form_of : Hash → List ℕ
form_of h =
    head h.width h.bits ++ bytes_of (reached h) ++ take (block_bytes (family h)) h.tail

-- What was stored while a hash held its length in 32 bits.
unfoldable pub old_form_of : Hash → List ℕ
old_form_of h =
    old_head h.width h.bits ++ bytes_of (reached h) ++ take (block_bytes (family h)) h.tail

unfoldable pub store_refusal : Hash → List ℕ → ℕ
store_refusal h out = cond (legal h) (cond (leb (form_bytes (family h)) (length out)) 0 6) 5

pub record Stored : Type 0 where
  pub hash : Hash
  pub refusal : ℕ

-- The answer of `store`, with the hash.
abbrev pub stored_by : {A : Type 0} → Hash → Result A Refusal → Stored
stored_by h answer = record { hash = h; refusal = number_of answer }

unfoldable pub store_answer : Hash → List ℕ → Stored
store_answer h out = record { hash = h; refusal = store_refusal h out }

-- What a form says, and the answer to it or to an old one.
unfoldable pub hash_of : List ℕ → Hash
hash_of form =
    record {
      width = form_width form;
      bits = form_bits form;
      state = padded 32 (words_of (state_words (form_family form)) (drop head_bytes form));
      tail = padded 128 (drop (head_bytes + block_bytes (form_family form)) form);
    }

unfoldable pub restore_answer : List ℕ → Opened
restore_answer form = opened (restore_refusal (current form)) (hash_of (current form))
