-- The definition in a form that the prover computes fast: each value of the transform once, by Horner's rule, and the bytes of a message in one walk.
-- The form equals the definition for all blocks, states and messages.
use mathlib.Core.Bool.{Bool, true, false, cond}
use mathlib.Core.List.{List, [], ◌∷◌, ◌++◌}
use mathlib.Core.Path.{◌≡◌, refl, sym, ap, ap₂, ◌∙◌, fun_ext}
use Prim.Native.Nat.{ℕ, zero, suc, ◌+◌, ◌*◌, ◌-◌, ◌/◌, ◌%◌, ◌<◌}
use native.Mathlib.Nat.{add-zero, zero-add, add-suc, suc-add, add_assoc, mul-zero, mul-suc, mul-add, mul_comm, mod-lt}
use native.Mathlib.Omega.{arith}
use lib.Bits.{bit_xor}
use lib.Dec.{lit<}
use lib.ListN.{get_or, length, take, drop}
use lib.Seq.{get_or-drop}
use Rattle.simd.specs.Basic.{Family, rows, block_bytes, state_words, points, family_of, digest_bytes, table, sum, word_at, words_of, bytes_of}
use Rattle.simd.specs.Constants.{root, order, rotations, small_exchanges, large_exchanges, exchange, start, start224, start256, start384, start512}
use Rattle.simd.specs.Message.{bits_of, message, byte_of, block, message_blocks, length_block}
use Rattle.simd.specs.Expansion.{power, added, transform, lift, residue, code, pair, matrix, expanded}
use Rattle.simd.specs.Steps.{add, rotl, IF, MAJ, words, state, rotation, choose, partner, step, steps, mixed, compression}
use Rattle.simd.specs.Hash.{chain, final, final_state, digest}

-- Horner's rule: the value at x, modulo 257, of the polynomial with the coefficients b.
unfoldable pub horner : List ℕ → ℕ → ℕ
horner [] x = 0
horner (c ∷ b) x = (c + x * horner b x) % 257

pub sum_first : (n : ℕ) (g : ℕ → ℕ) → sum (suc n) g ≡ g 0 + sum n (λ j. g (suc j))
unfolding sum
sum_first zero g = omega arith
sum_first (suc n) g = omega (arith, sum_first n g)

-- A factor x out of a sum, modulo 257.
factor : (n x : ℕ) (c p : ℕ → ℕ) → sum n (λ j. c j * (x * p j % 257)) % 257 ≡ x * sum n (λ j. c j * p j) % 257
unfolding sum
factor zero x c p = rw mul-zero
factor (suc n) x c p =
    let split : x * p n ≡ 257 * (x * p n / 257) + x * p n % 257 = omega arith in
    omega (arith, factor n x c p, ap (λ v. c n * v) split)

-- One coefficient more, in front.
more : (n x h : ℕ) (c : ℕ → ℕ) → sum n (λ j. c (suc j) * power x j) % 257 ≡ h → sum (suc n) (λ j. c j * power x j) % 257 ≡ (c 0 + x * h) % 257
unfolding power
more n x h c e =
    let s : ℕ = sum n (λ j. c (suc j) * power x j) in
    let split : s ≡ 257 * (s / 257) + h = omega arith in
    omega (arith, sum_first n (λ j. c j * power x j), factor n x (λ j. c (suc j)) (power x), ap (λ v. x * v) split)

no_bytes : (n x : ℕ) → sum n (λ j. 0 * power x j) % 257 ≡ 0
unfolding sum
no_bytes zero x = refl
no_bytes (suc n) x = omega (arith, no_bytes n x)

-- The sum of the first n bytes times the powers of x, by Horner's rule.
pub horner_sum : (n : ℕ) (b : List ℕ) (x : ℕ) → sum n (λ j. get_or b j 0 * power x j) % 257 ≡ horner (take n b) x
unfolding sum horner
horner_sum zero b x = refl
horner_sum (suc n) [] x = no_bytes (suc n) x
horner_sum (suc n) (c ∷ b) x = more n x (horner (take n b) x) (λ j. get_or (c ∷ b) j 0) (horner_sum n b x)

pub power_lt : (w e : ℕ) → power w e < 257
unfolding power
power_lt w zero = lit< tt
power_lt w (suc e) = mod-lt (w * power w e) (lit< tt)

pub power_add : (w m n : ℕ) → power w (m + n) ≡ power w m * power w n % 257
unfolding power
power_add w m zero = rw add-zero (omega (arith, power_lt w m))
power_add w m (suc n) =
    let p : ℕ = power w m in
    let q : ℕ = power w n in
    let left : p * q ≡ 257 * (p * q / 257) + p * q % 257 = omega arith in
    let right : w * q ≡ 257 * (w * q / 257) + w * q % 257 = omega arith in
    rw (add-suc, power_add w m n) (omega (arith, ap (λ v. w * v) left, ap (λ v. p * v) right))

pub power_mul : (w m n : ℕ) → power w (m * n) ≡ power (power w m) n
unfolding power
power_mul w m zero = rw mul-zero
power_mul w m (suc n) = rw (mul-suc, power_add, power_mul w m n, mul_comm (power (power w m) n))

-- w^(-1) and w^(-3). Their powers are what is added to the values.
abbrev inverse : Family → ℕ
inverse f = power (root f) (points f - 1)

abbrev inverse_cube : Family → ℕ
inverse_cube f = power (root f) (points f - 3)

value : (f : Family) (last : Bool) (b : List ℕ) (i : ℕ)
    → transform f last b i
    ≡ (horner (take (block_bytes f) b) (power (root f) i) + (power (inverse f) i + cond last (power (inverse_cube f) i) 0)) % 257
unfolding transform added
value f last b i = simp (power_mul, ← horner_sum) (omega arith)

-- n values, the first of them at the point x. y and z are what is added there; times u, v and w they are those of the next point.
unfoldable pub values_from : Bool → List ℕ → ℕ → ℕ → ℕ → ℕ → ℕ → ℕ → ℕ → List ℕ
values_from last b u v w zero x y z = []
values_from last b u v w (suc n) x y z =
    (horner b x + (y + cond last z 0)) % 257 ∷ values_from last b u v w n (u * x % 257) (v * y % 257) (w * z % 257)

unfoldable pub values : Family → Bool → List ℕ → List ℕ
values f last b = values_from last (take (block_bytes f) b) (root f) (inverse f) (inverse_cube f) (points f) 1 1 1

values_from_lem : (f : Family) (last : Bool) (b : List ℕ) (n i : ℕ)
    → values_from last (take (block_bytes f) b) (root f) (inverse f) (inverse_cube f) n (power (root f) i) (power (inverse f) i) (power (inverse_cube f) i)
    ≡ table n (λ k. transform f last b (i + k))
unfolding values_from table power
values_from_lem f last b zero i = refl
values_from_lem f last b (suc n) i =
    ap₂ (λ (y : ℕ) ys. y ∷ ys) (sym (value f last b i) ∙ ap (transform f last b) (sym (add-zero i)))
    (values_from_lem f last b n (suc i) ∙ ap (table n) (fun_ext (λ k. ap (transform f last b) (suc-add i k ∙ sym (add-suc i k)))))

-- All values of the transform of a block.
pub values_transform : (f : Family) (last : Bool) (b : List ℕ) → values f last b ≡ table (points f) (transform f last b)
unfolding values power
values_transform f last b = values_from_lem f last b (points f) 0 ∙ ap (table (points f)) (fun_ext (λ k. ap (transform f last b) (zero-add k)))

-- Place k of a table of g, with g k for a place that it does not have, is g k.
get_d_own : (n : ℕ) (g : ℕ → ℕ) (k : ℕ) → get_or (table n g) k (g k) ≡ g k
unfolding table
get_d_own zero g k = refl
get_d_own (suc n) g zero = refl
get_d_own (suc n) g (suc k) = get_d_own n (λ k. g (suc k)) k

-- The expanded block, with the values read off their list.
unfoldable pub fast_expanded : Family → Bool → List ℕ → List (List ℕ)
fast_expanded f last b =
    let y = values f last b in
    table 32 (λ i. table (rows f) (matrix f (λ k. get_or y k (transform f last b k)) (get_or order i 0)))

pub expanded_fast : (f : Family) (last : Bool) (b : List ℕ) → expanded f last b ≡ fast_expanded f last b
unfolding expanded fast_expanded
expanded_fast f last b =
    rw values_transform
    (ap (λ y. table 32 (λ i. table (rows f) (matrix f y (get_or order i 0)))) (fun_ext (λ k. sym (get_d_own (points f) (transform f last b) k))))

-- A compression, with the words of the block taken once.
unfoldable pub fast_compression : Family → Bool → List ℕ → List ℕ → List ℕ
fast_compression f last old bytes =
    let h = state f old in
    let b = words_of (state_words f) bytes in
    words
    (steps f (fast_expanded f last bytes ++ (h.a ∷ h.b ∷ h.c ∷ h.d ∷ [])) 36
    (state f (table (state_words f) (λ i. bit_xor (get_or old i 0) (get_or b i 0)))))

pub compression_fast : (f : Family) (last : Bool) (old bytes : List ℕ) → compression f last old bytes ≡ fast_compression f last old bytes
unfolding compression fast_compression mixed
compression_fast f last old bytes = rw expanded_fast

-- The n first bytes of a message.
unfoldable pub bytes_from : ℕ → List ℕ → List ℕ
bytes_from zero m = []
bytes_from (suc n) m = byte_of m 0 ∷ bytes_from n (drop 8 m)

byte_later : (m : List ℕ) (k j : ℕ) → byte_of (drop (8 * k) m) j ≡ byte_of m (k + j)
unfolding byte_of
byte_later m k j = simp (get_or-drop, ← add_assoc, ← mul-add)

bytes_from_lem : (n : ℕ) (m : List ℕ) → bytes_from n m ≡ table n (byte_of m)
unfolding bytes_from table
bytes_from_lem zero m = refl
bytes_from_lem (suc n) m =
    ap (λ l. byte_of m 0 ∷ l) (bytes_from_lem n (drop 8 m) ∙ ap (table n) (fun_ext (λ j. byte_later m 1 j ∙ ap (byte_of m) (omega arith))))

-- Message block k, the digest and what leads to it.
unfoldable pub fast_block : Family → List ℕ → ℕ → List ℕ
fast_block f m k = bytes_from (block_bytes f) (drop (8 * (block_bytes f * k)) m)

pub block_fast : (f : Family) (m : List ℕ) (k : ℕ) → block f m k ≡ fast_block f m k
unfolding block fast_block
block_fast f m k = sym (bytes_from_lem (block_bytes f) _ ∙ ap (table (block_bytes f)) (fun_ext (byte_later m (block_bytes f * k))))

unfoldable pub fast_chain : Family → List ℕ → List ℕ → ℕ → List ℕ
fast_chain f from m zero = from
fast_chain f from m (suc k) = fast_compression f false (fast_chain f from m k) (fast_block f m k)

pub chain_fast : (f : Family) (from m : List ℕ) (k : ℕ) → chain f from m k ≡ fast_chain f from m k
unfolding chain fast_chain
chain_fast f from m zero = refl
chain_fast f from m (suc k) = rw (compression_fast, chain_fast f from m k, block_fast)

unfoldable pub fast_digest : ℕ → List ℕ → List ℕ
fast_digest width m =
    let f = family_of width in
    let n = length m in
    take (digest_bytes width) (bytes_of (fast_compression f true (fast_chain f (start width) m (message_blocks f n)) (length_block f n)))

pub digest_fast : (width : ℕ) (m : List ℕ) → digest width m ≡ fast_digest width m
unfolding digest final_state final fast_digest
digest_fast width m = rw (compression_fast, chain_fast)

-- Named on an `unfolding` line, this opens all that a compression, or the digest of a message, is computed through.
unfoldable pub computing : Unit {0}
unfolding
    horner values_from values fast_expanded fast_compression fast_block fast_chain fast_digest bytes_from
    table sum word_at words_of bytes_of bits_of message byte_of message_blocks length_block
    order rotations small_exchanges large_exchanges exchange start start224 start256 start384 start512
    power lift residue code pair matrix add rotl IF MAJ words state rotation choose partner step steps
computing = tt
