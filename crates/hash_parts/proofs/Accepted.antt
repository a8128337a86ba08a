-- What an accepted form fulfils.
use mathlib.Core.Bool.{true, cond}
use mathlib.Core.List.{List}
use mathlib.Core.Path.{◌≡◌}
use Prim.Native.Nat.{ℕ, ◌+◌, ◌%◌}
use borrow.Author.Tests.{eqb-true}
use lib.Dec.{leb, eqb}
use lib.ListN.{length, drop}
use Rattle.simd.specs.Basic.{is_width, block_bytes, block_bits}
use Rattle.bits.specs.Zero.{clear}
use Rattle.form.specs.Head.{form_width, form_bits, head_bytes}
use Rattle.hash_parts.specs.Form.{form_bytes, form_family, restore_refusal}
use Rattle.hash_parts.proofs.Refusing.{passed}

-- Restored and stored. What an accepted form fulfils.
pub record Accepted (form : List ℕ) : Type 0 where
  pub known : is_width (form_width form) ≡ true
  pub size : length form ≡ form_bytes (form_family form)
  pub clean : clear (form_bits form % block_bits (form_family form)) (drop (head_bytes + block_bytes (form_family form)) form) ≡ true

pub form_facts : (form : List ℕ) → restore_refusal form ≡ 0 → Accepted form
unfolding restore_refusal
form_facts form e =
    let f = form_family form in
    let clean = clear (form_bits form % block_bits f) (drop (head_bytes + block_bytes f) form) in
    let size = eqb (length form) (form_bytes f) in
    let second = (passed (leb 2 (length form)) (cond (is_width (form_width form)) (cond size (cond clean 0 9) 8) 1) 7 e).1 in
    let third = passed (is_width (form_width form)) (cond size (cond clean 0 9) 8) 0 second in
    let fourth = passed size (cond clean 0 9) 7 third.1 in
    record { known = third.0; size = eqb-true (length form) (form_bytes f) fourth.0; clean = (passed clean 0 8 fourth.1).0 }
