-- The keyed hash: opened with a key, fed pieces as an open hash, taken and checked. What follows is worked out from its two hashes, whether or not a
-- key and a message reach them.
use Rattle.std.specs.Prelude.{Bool, false, cond, Result, Ok, Err, List, [], ℕ, zero, suc, ◌+◌, leb, length}
use Rattle.simd.specs.Basic.{digest_bytes}
use Rattle.simd.specs.Message.{message}
use Rattle.simd.specs.Hash.{compressions}
use Rattle.refusals.specs.declared.Refusal.{Refusal}
use Rattle.refusals.specs.Numbers.{number, number_of}
use Rattle.hash.specs.Open.{family, used, holding, advanced, full_blocks, piece_refusal}
use Rattle.pairs.specs.Lists.{equal}
use Rattle.hmac_key.specs.Hmac.{ipad, opad, masked, key_block}
use Rattle.hmac_key.specs.Refusal.{key_refusal}
use Rattle.hmac_parts.specs.Keyed.{begun, keyed, tag_from}
use Rattle.hmac.specs.declared.Hmac.{Hmac}

-- An answer: the keyed hash after it, `blocks` compressed, whether the bytes given are the tag, and the refusal's number, or 0. A refusal leaves the
-- keyed hash as it was handed over; it is all zeros where none was (open, restore).
pub record Opened : Type 0 where
  pub hmac : Hmac
  pub refusal : ℕ

pub record Fed : Type 0 where
  pub hmac : Hmac
  pub blocks : ℕ
  pub refusal : ℕ

pub record Taken : Type 0 where
  pub hmac : Hmac
  pub blocks : ℕ
  pub refusal : ℕ

pub record Checked : Type 0 where
  pub hmac : Hmac
  pub right : Bool
  pub refusal : ℕ

-- Whether it is a keyed hash.
unfoldable pub legal : Hmac → Bool
legal k = keyed k.inner k.outer

-- The width of a keyed hash.
abbrev pub width : Hmac → ℕ
width k = k.inner.width

-- An answer with no keyed hash handed over: refused, both hashes are all zeros.
abbrev pub no_hmac : Hmac
no_hmac = record { inner = holding 0 0 [] []; outer = holding 0 0 [] [] }

unfoldable pub opened : ℕ → Hmac → Opened
opened zero k = record { hmac = k; refusal = 0 }
opened (suc r) k = record { hmac = no_hmac; refusal = suc r }

-- The answer of `open` and of `restore`, from the keyed hash handed over and what is said of it, and from the keyed hash alone.
abbrev pub opened_as : {A : Type 0} → Hmac → Result A Refusal → Opened
opened_as k answer = record { hmac = k; refusal = number_of answer }

abbrev pub opened_by : Result Hmac Refusal → Opened
opened_by (Ok k) = record { hmac = k; refusal = 0 }
opened_by (Err r) = record { hmac = no_hmac; refusal = number r }

-- Open: 1, then 4 for a key above the bit limit.
unfoldable pub opening : ℕ → List ℕ → Hmac
opening w key = record { inner = begun w (masked ipad (key_block w key)); outer = begun w (masked opad (key_block w key)) }

unfoldable pub open_answer : ℕ → List ℕ → Opened
open_answer w key = opened (key_refusal w (length key)) (opening w key)

-- Feed: 5, then as for a piece after the bits of the inner hash, which begin with the key's block.
unfoldable pub feed_refusal : Hmac → List ℕ → ℕ → ℕ
feed_refusal k piece count = cond (legal k) (piece_refusal k.inner.bits piece count) 5

unfoldable pub fed : ℕ → Hmac → List ℕ → Fed
fed zero k m =
    record { hmac = record { inner = advanced k.inner m; outer = k.outer }; blocks = full_blocks k.inner (length m); refusal = 0 }
fed (suc r) k m = record { hmac = k; blocks = 0; refusal = suc r }

-- The answer of `feed`, with the keyed hash after it.
abbrev pub fed_by : Hmac → Result ℕ Refusal → Fed
fed_by k (Ok n) = record { hmac = k; blocks = n; refusal = 0 }
fed_by k (Err r) = record { hmac = k; blocks = 0; refusal = number r }

unfoldable pub feed_answer : Hmac → List ℕ → ℕ → Fed
feed_answer k piece count = fed (feed_refusal k piece count) k (message piece count)

-- Take: the digest of the outer hash after it was fed that of the inner one. The outer one then compresses two blocks, since a digest is less than one.
abbrev pub tag_of : Hmac → List ℕ
tag_of k = tag_from k.inner k.outer

-- 5, then 6 where the buffer lent is too short.
unfoldable pub take_refusal : Hmac → List ℕ → ℕ
take_refusal k out = cond (legal k) (cond (leb (digest_bytes (width k)) (length out)) 0 6) 5

unfoldable pub taken : ℕ → Hmac → Taken
taken zero k = record { hmac = k; blocks = compressions (family k.inner) (used k.inner) + 2; refusal = 0 }
taken (suc r) k = record { hmac = k; blocks = 0; refusal = suc r }

-- The answer of `take`, with the keyed hash.
abbrev pub taken_by : Hmac → Result ℕ Refusal → Taken
taken_by k (Ok n) = record { hmac = k; blocks = n; refusal = 0 }
taken_by k (Err r) = record { hmac = k; blocks = 0; refusal = number r }

unfoldable pub take_answer : Hmac → List ℕ → Taken
take_answer k out = taken (take_refusal k out) k

-- Check: 5. Right where the bytes given are the whole tag.
unfoldable pub check_answer : Hmac → List ℕ → Checked
check_answer k given =
    cond (legal k) (record { hmac = k; right = equal given (tag_of k); refusal = 0 }) (record { hmac = k; right = false; refusal = 5 })

-- The answer of `check`, with the keyed hash.
abbrev pub checked_by : Hmac → Result Bool Refusal → Checked
checked_by k (Ok right) = record { hmac = k; right = right; refusal = 0 }
checked_by k (Err r) = record { hmac = k; right = false; refusal = number r }
