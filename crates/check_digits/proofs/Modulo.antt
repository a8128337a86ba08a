-- What digits show modulo 97: since 16 and 100 have inverses there, and 15 times a difference of two digits is no multiple of 97, a number whose
-- check is kept tells each digit beside the others, and the order of two neighbours.
use mathlib.Core.List.{List, [], ◌∷◌}
use mathlib.Core.Path.{◌≡◌, sym, ap, ◌∙◌}
use Prim.Native.Nat.{ℕ, zero, suc, ◌+◌, ◌*◌, ◌/◌, ◌%◌, ◌<◌}
use native.Mathlib.Nat.{div-add-mod, mul-add-mod_self_left}
use native.Mathlib.Omega.{arith}
use lib.ListN.{length, get_or, set}
use Rattle.text.specs.Text.{digit_of}
use Rattle.check_digits.specs.Quote.{shown, check, exchanged}

-- A remainder, multiplied and added to.
pub times : (k y t q z : ℕ) → k * y + t ≡ 97 * q + z → (k * (y % 97) + t) % 97 ≡ z % 97
times k y t q z same =
    let split : 97 * (k * (y / 97)) + (k * (y % 97) + t) ≡ k * y + t = omega (arith, ap (λ v. k * v) (div-add-mod y 97)) in
    sym (mul-add-mod_self_left 97 (k * (y / 97)) (k * (y % 97) + t)) ∙ ap (λ v. v % 97) (split ∙ same) ∙ mul-add-mod_self_left 97 q z

-- One check is of one remainder: 65 times 100 is 1.
by_65 : (n : ℕ) → (65 * ((100 * n) % 97) + 0) % 97 ≡ n % 97
by_65 n = times 65 (100 * n) 0 (67 * n) n (omega arith)

pub one_remainder : (m n : ℕ) → check m ≡ check n → m % 97 ≡ n % 97
unfolding check
one_remainder m n same =
    let less : (100 * m) % 97 ≡ (100 * n) % 97 = omega arith in
    sym (by_65 m) ∙ ap (λ v. (65 * v + 0) % 97) less ∙ by_65 n

-- Digits behind a number do not make two remainders one: 91 times 16 is 1, and 91 and 6 is 0.
by_91 : (a d : ℕ) → (91 * ((16 * a + d) % 97) + 6 * d) % 97 ≡ a % 97
by_91 a d = times 91 (16 * a + d) (6 * d) (15 * a + d) a (omega arith)

before_digit : (a b d : ℕ) → (16 * a + d) % 97 ≡ (16 * b + d) % 97 → a % 97 ≡ b % 97
before_digit a b d same = sym (by_91 a d) ∙ ap (λ v. (91 * v + 6 * d) % 97) same ∙ by_91 b d

before_digits : (text : List ℕ) (a b : ℕ) → shown a text % 97 ≡ shown b text % 97 → a % 97 ≡ b % 97
unfolding shown
before_digits [] a b same = same
before_digits (c ∷ text) a b same = before_digit a b (digit_of c) (before_digits text _ _ same)

-- A digit in the place of another.
pub changed_digit : (text : List ℕ) (a i c : ℕ) → i < length text → digit_of c < 16 → digit_of (get_or text i 0) < 16
    → shown a (set text i c) % 97 ≡ shown a text % 97 → digit_of c ≡ digit_of (get_or text i 0)
unfolding shown
changed_digit [] a i c inside new old same = absurd (omega arith)
changed_digit (x ∷ text) a zero c inside new old same = omega (arith, before_digits text (16 * a + digit_of c) (16 * a + digit_of x) same)
changed_digit (x ∷ text) a (suc i) c inside new old same = changed_digit text (16 * a + digit_of x) i c (omega arith) new old same

-- Two neighbours exchanged. 13 times 15 is 1, so that 13 times either number, with what both have in common, is one of the two digits.
neighbours : (a x y : ℕ) → (16 * (16 * a + y) + x) % 97 ≡ (16 * (16 * a + x) + y) % 97 → y % 97 ≡ x % 97
neighbours a x y same =
    let t = 84 * (256 * a + x + y) in
    sym (times 13 (16 * (16 * a + y) + x) t (256 * a + x + 3 * y) y (omega arith))
    ∙ ap (λ v. (13 * v + t) % 97) same
    ∙ times 13 (16 * (16 * a + x) + y) t (256 * a + y + 3 * x) x (omega arith)

pub exchanged_digits : (text : List ℕ) (a i : ℕ) → suc i < length text → digit_of (get_or text i 0) < 16 → digit_of (get_or text (suc i) 0) < 16
    → shown a (exchanged text i) % 97 ≡ shown a text % 97 → digit_of (get_or text i 0) ≡ digit_of (get_or text (suc i) 0)
unfolding shown
exchanged_digits [] a i inside left right same = absurd (omega arith)
exchanged_digits (x ∷ []) a i inside left right same = absurd (omega arith)
exchanged_digits (x ∷ y ∷ text) a zero inside left right same =
    omega (arith, neighbours a (digit_of x) (digit_of y) (before_digits text _ _ same))
exchanged_digits (x ∷ y ∷ text) a (suc i) inside left right same =
    exchanged_digits (y ∷ text) (16 * a + digit_of x) i (omega arith) left right same
