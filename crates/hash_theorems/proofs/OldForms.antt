-- What was stored while a hash held its length in 32 bits: with zeros behind the length it is the form of today, byte for byte.
use mathlib.Core.List.{List, ◌++◌, append_assoc}
use mathlib.Core.Path.{◌≡◌, ap, ◌∙◌, sym}
use Prim.Native.Nat.{ℕ, ◌-◌, ◌/◌, ◌%◌, ◌^◌, ◌<◌}
use native.Mathlib.Omega.{arith}
use lib.ListN.{length, length-append, take, drop}
use lib.Seq.{take_at, drop_at}
use Rattle.simd.specs.Basic.{family_of, block_bytes, bytes_of, table}
use Rattle.little_endian.specs.Numbers.{little_endian}
use Rattle.little_endian.proofs.Writing.{length_little_endian, number_written}
use Rattle.form.specs.Head.{length_bytes, head_bytes, head, form_width}
use Rattle.form.specs.Size.{old_length_bytes, old_head_bytes, old_head}
use Rattle.hash.specs.Open.{family, reached}
use Rattle.hash.specs.Form.{old_form_bytes, form_family, form_of, old_form_of, widened}
use Rattle.hash.specs.declared.Hash.{Hash}
use Rattle.hash.proofs.Holding.{Value}
use Rattle.hash_theorems.proofs.Held.{long}
use Rattle.hash_theorems.proofs.Storing.{block_bytes_lem, tail_bytes}

-- The zeros are the high bytes of a length that 4 bytes hold.
low_bytes : (x : ℕ) → x < 2 ^ 32 → little_endian old_length_bytes x ++ table (head_bytes - old_head_bytes) (λ _. 0) ≡ little_endian length_bytes x
unfolding little_endian table
low_bytes x short =
    let fifth : x / 256 ^ 4 % 256 ≡ 0 = omega arith in
    let sixth : x / 256 ^ 5 % 256 ≡ 0 = omega arith in
    let seventh : x / 256 ^ 6 % 256 ≡ 0 = omega arith in
    let eighth : x / 256 ^ 7 % 256 ≡ 0 = omega arith in
    rw (fifth, sixth, seventh, eighth)

module _ (h : Hash) (v : Value h) where
  abbrev front : List ℕ
  front = old_head h.width h.bits

  abbrev rest : List ℕ
  rest = bytes_of (reached h) ++ take (block_bytes (family h)) h.tail

  front_bytes : length front ≡ old_head_bytes
  front_bytes =
      omega (
        arith,
        length-append (little_endian 2 h.width) (little_endian old_length_bytes h.bits),
        length_little_endian 2 h.width,
        length_little_endian old_length_bytes h.bits,
      )

  parts : old_form_of h ≡ front ++ rest
  unfolding old_form_of
  parts = append_assoc front (bytes_of (reached h)) (take (block_bytes (family h)) h.tail)

  old_width : form_width (old_form_of h) ≡ h.width
  unfolding form_width
  old_width =
      rw (parts, append_assoc (little_endian 2 h.width) (little_endian old_length_bytes h.bits) rest)
      (number_written 2 h.width (little_endian old_length_bytes h.bits ++ rest) v.width_fits)

  pub old_form_bytes_lem : length (old_form_of h) ≡ old_form_bytes (family h)
  old_form_bytes_lem =
      let l = long v.sized in
      ap length parts
      ∙ omega (
        arith,
        length-append front rest,
        front_bytes,
        length-append (bytes_of (reached h)) (take (block_bytes (family h)) h.tail),
        block_bytes_lem h l,
        tail_bytes h l,
      )

  -- It is told by this size.
  pub old_form_size : length (old_form_of h) ≡ old_form_bytes (form_family (old_form_of h))
  old_form_size = old_form_bytes_lem ∙ ap (λ (w : ℕ). old_form_bytes (family_of w)) (sym old_width)

  pub old_form_widened : h.bits < 2 ^ 32 → widened (old_form_of h) ≡ form_of h
  unfolding widened form_of
  old_form_widened short =
      let zeros : List ℕ = table (head_bytes - old_head_bytes) (λ _. 0) in
      let before = ap (take old_head_bytes) parts ∙ take_at front rest old_head_bytes front_bytes in
      let behind = ap (drop old_head_bytes) parts ∙ drop_at front rest old_head_bytes front_bytes in
      let longer = append_assoc (little_endian 2 h.width) (little_endian old_length_bytes h.bits) zeros
      ∙ ap (λ (l : List ℕ). little_endian 2 h.width ++ l) (low_bytes h.bits short) in
      (λ i. before i ++ zeros ++ behind i)
      ∙ ap (λ (l : List ℕ). l ++ rest) longer
      ∙ sym (append_assoc (head h.width h.bits) (bytes_of (reached h)) (take (block_bytes (family h)) h.tail))
