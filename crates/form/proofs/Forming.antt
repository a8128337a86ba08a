-- Laws of a head and a stored form that are written and read part by part.
use mathlib.Core.List.{List, [], ◌++◌, append_assoc}
use mathlib.Core.Path.{◌≡◌, refl, sym, ap, ◌∙◌}
use Prim.Native.Nat.{ℕ, ◌+◌, ◌*◌, ◌-◌, ◌^◌, ◌<◌, ◌≤◌}
use native.Mathlib.Omega.{arith}
use borrow.Rule.Slice.PartMut.{mid_of, put_mid, mid_len}
use lib.ListN.{length, get_or, take, drop, length-take, length-append}
use lib.Seq.{take_all, get_or-drop, drop_at}
use Rattle.simd.specs.Basic.{bytes_of, word_at, words_of, sum}
use Rattle.laws.proofs.Sum.{sum_ext}
use Rattle.laws.proofs.LittleEndian.{length_bytes_of, get_d_words_of}
use Rattle.bits.proofs.Parts.{put_length, put_front}
use Rattle.little_endian.specs.Numbers.{little_endian, number}
use Rattle.form.specs.Head.{form_width, form_bits, length_bytes, head_bytes, head}
use Rattle.little_endian.proofs.Writing.{length_little_endian, number_written}

-- Two numbers written one behind the other fill a head.
abbrev width_in : List ℕ → List ℕ → List ℕ
width_in out x₁ = put_mid 0 2 out x₁

module _ (width bits : ℕ) (out : List ℕ) (whole : length out ≡ head_bytes) (x₁ x₂ : List ℕ)
    (w₁ : x₁ ≡ little_endian (length (mid_of 0 2 out)) width)
    (w₂ : x₂ ≡ little_endian (length (mid_of 2 length_bytes (width_in out x₁))) bits) where
  one : x₁ ≡ little_endian 2 width
  one = w₁ ∙ ap (λ (n : ℕ). little_endian n width) (mid_len 0 2 out (omega arith))

  size₁ : length x₁ ≡ 2
  size₁ = ap length one ∙ length_little_endian 2 width

  long₁ : length (width_in out x₁) ≡ length out
  long₁ = put_length 0 2 out x₁ (omega arith) (omega arith) size₁

  two : x₂ ≡ little_endian length_bytes bits
  two = w₂ ∙ ap (λ (n : ℕ). little_endian n bits) (mid_len 2 head_bytes (width_in out x₁) (omega (arith, long₁)))

  size₂ : length x₂ ≡ length_bytes
  size₂ = ap length two ∙ length_little_endian length_bytes bits

  pub head_written : put_mid 2 length_bytes (width_in out x₁) x₂ ≡ head width bits
  head_written =
      let a = width_in out x₁ in
      let b = put_mid 2 length_bytes a x₂ in
      let f₁ : take 2 a ≡ x₁ = put_front 0 2 out x₁ [] (omega arith) (omega arith) size₁ refl in
      let f₂ : take head_bytes b ≡ x₁ ++ x₂ = put_front 2 head_bytes a x₂ x₁ (omega arith) (omega (arith, long₁)) size₂ f₁ in
      let long₂ : length b ≡ length out = put_length 2 head_bytes a x₂ (omega arith) (omega (arith, long₁)) size₂ ∙ long₁ in
      sym (take_all head_bytes b (omega (arith, long₂))) ∙ f₂ ∙ λ i. one i ++ two i

pub length_head : (width bits : ℕ) → length (head width bits) ≡ head_bytes
length_head width bits =
    omega (
      arith,
      length-append (little_endian 2 width) (little_endian length_bytes bits),
      length_little_endian 2 width,
      length_little_endian length_bytes bits,
    )

-- What a head that was written says, whatever stands behind it.
module _ (width n : ℕ) (rest : List ℕ) where
  pub written_width : width < 256 ^ 2 → form_width (head width n ++ rest) ≡ width
  unfolding form_width
  written_width fit =
      rw (append_assoc (little_endian 2 width) (little_endian length_bytes n) rest) (number_written 2 width (little_endian length_bytes n ++ rest) fit)

  pub written_bits : n < 256 ^ length_bytes → form_bits (head width n ++ rest) ≡ n
  unfolding form_bits
  written_bits fit =
      rw (
        append_assoc (little_endian 2 width) (little_endian length_bytes n) rest,
        drop_at (little_endian 2 width) (little_endian length_bytes n ++ rest) 2 (length_little_endian 2 width),
      )
      (number_written length_bytes n rest fit)

-- Three parts written one behind the other: the output after one and after two of them, and after all.
abbrev one_in : List ℕ → List ℕ → List ℕ
one_in out x₁ = put_mid 0 head_bytes out x₁

abbrev two_in : ℕ → List ℕ → List ℕ → List ℕ → List ℕ
two_in size out x₁ x₂ = put_mid head_bytes (head_bytes + size - head_bytes) (one_in out x₁) x₂

module _ (width bits size : ℕ) (state tail out : List ℕ) (whole : length out ≡ head_bytes + 2 * size)
    (short : size ≤ 128) (words : length state ≡ 32) (bytes : length tail ≡ 128)
    (x₁ x₂ x₃ : List ℕ)
    (w₁ : x₁ ≡ head width bits)
    (w₂ : x₂ ≡ take (length (mid_of head_bytes (head_bytes + size - head_bytes) (one_in out x₁))) (bytes_of state))
    (w₃ : x₃ ≡ take (length (mid_of (head_bytes + size) (head_bytes + size + size - (head_bytes + size)) (two_in size out x₁ x₂))) tail) where
  front_size : length x₁ ≡ head_bytes
  front_size = ap length w₁ ∙ length_head width bits

  front_long : length (one_in out x₁) ≡ length out
  front_long = put_length 0 head_bytes out x₁ (omega arith) (omega arith) front_size

  middle : x₂ ≡ take size (bytes_of state)
  middle =
      let n : head_bytes + size - head_bytes ≡ size = omega arith in
      w₂ ∙ ap (λ (n : ℕ). take n (bytes_of state)) (mid_len head_bytes (head_bytes + size) (one_in out x₁) (omega (arith, front_long)) ∙ n)

  middle_size : length x₂ ≡ size
  middle_size = ap length middle ∙ omega (arith, length-take size (bytes_of state), length_bytes_of state)

  middle_long : length (two_in size out x₁ x₂) ≡ length out
  middle_long =
      put_length head_bytes (head_bytes + size) (one_in out x₁) x₂ (omega arith) (omega (arith, front_long)) (omega (arith, middle_size)) ∙ front_long

  last : x₃ ≡ take size tail
  last =
      let n : head_bytes + size + size - (head_bytes + size) ≡ size = omega arith in
      w₃
      ∙ ap (λ (n : ℕ). take n tail)
      (mid_len (head_bytes + size) (head_bytes + size + size) (two_in size out x₁ x₂) (omega (arith, middle_long)) ∙ n)

  last_size : length x₃ ≡ size
  last_size = ap length last ∙ omega (arith, length-take size tail)

  pub form_written : put_mid (head_bytes + size) (head_bytes + size + size - (head_bytes + size)) (two_in size out x₁ x₂) x₃
      ≡ head width bits ++ take size (bytes_of state) ++ take size tail
  form_written =
      let a = one_in out x₁ in
      let b = two_in size out x₁ x₂ in
      let c = put_mid (head_bytes + size) (head_bytes + size + size - (head_bytes + size)) b x₃ in
      let f₁ : take head_bytes a ≡ x₁ = put_front 0 head_bytes out x₁ [] (omega arith) (omega arith) front_size refl in
      let f₂ : take (head_bytes + size) b ≡ x₁ ++ x₂ =
      put_front head_bytes (head_bytes + size) a x₂ x₁ (omega arith) (omega (arith, front_long)) (omega (arith, middle_size)) f₁ in
      let f₃ : take (head_bytes + size + size) c ≡ x₁ ++ x₂ ++ x₃ =
      put_front (head_bytes + size) (head_bytes + size + size) b x₃ (x₁ ++ x₂) (omega arith) (omega (arith, middle_long)) (omega (arith, last_size)) f₂ in
      let long : length c ≡ length out =
      put_length (head_bytes + size) (head_bytes + size + size) b x₃ (omega arith) (omega (arith, middle_long)) (omega (arith, last_size)) ∙ middle_long in
      sym (take_all (head_bytes + size + size) c (omega (arith, long))) ∙ f₃ ∙ λ i. w₁ i ++ middle i ++ last i

-- Numbers read.
pub read_two : (form : List ℕ) → get_or form 0 0 + get_or form 1 0 * 256 ≡ form_width form
unfolding form_width number sum
read_two form = omega arith

pub word_read : (bytes : List ℕ) (at n i : ℕ) → i < n → number 4 (drop (at + 4 * i) bytes) ≡ get_or (words_of n (drop at bytes)) i 0
unfolding number word_at
word_read bytes at n i below =
    sum_ext 4 (λ t. get_or (drop (at + 4 * i) bytes) t 0 * 256 ^ t) (λ t. get_or (drop at bytes) (4 * i + t) 0 * 256 ^ t)
    (λ t _.
    let place : at + 4 * i + t ≡ at + (4 * i + t) = omega arith in
    ap (λ (b : ℕ). b * 256 ^ t)
    (get_or-drop (at + 4 * i) bytes t 0 ∙ ap (λ (k : ℕ). get_or bytes k 0) place ∙ sym (get_or-drop at bytes (4 * i + t) 0)))
    ∙ sym (get_d_words_of n (drop at bytes) i below)
