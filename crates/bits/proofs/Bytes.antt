-- The bytes of a number, low byte first, as std's contracts have them.
use mathlib.Core.List.{◌∷◌}
use mathlib.Core.Path.{◌≡◌, refl, sym, ap, ◌∙◌}
use Prim.Native.Nat.{ℕ, zero, suc, ◌+◌, ◌/◌, ◌%◌, ◌^◌}
use native.Mathlib.Nat.{add-zero, add-suc, suc-add, zero-add, div-one}
use Rattle.std.specs.Int.{byte_at, bytes_low_first}
use Rattle.simd.specs.Basic.{table}
use Rattle.laws.proofs.Table.{table_ext}

byte_of_number : (i n : ℕ) → byte_at i n ≡ n / 256 ^ i % 256
byte_of_number zero n = ap (λ q. q % 256) (sym (div-one n))
byte_of_number (suc i) n = refl

low_first : (k i n : ℕ) → bytes_low_first i k n ≡ table k (λ t. n / 256 ^ (i + t) % 256)
unfolding table
low_first zero i n = refl
low_first (suc k) i n =
    let first : byte_at i n ≡ n / 256 ^ (i + zero) % 256 = byte_of_number i n ∙ ap (λ j. n / 256 ^ j % 256) (sym (add-zero i)) in
    let rest : bytes_low_first (suc i) k n ≡ table k (λ t. n / 256 ^ (i + suc t) % 256) =
    low_first k (suc i) n ∙ table_ext k _ _ (λ t _. ap (λ j. n / 256 ^ j % 256) (suc-add i t ∙ sym (add-suc i t))) in
    λ t. first t ∷ rest t

pub low_bytes : (k n : ℕ) → bytes_low_first 0 k n ≡ table k (λ t. n / 256 ^ t % 256)
low_bytes k n = low_first k 0 n ∙ table_ext k _ _ (λ t _. ap (λ j. n / 256 ^ j % 256) (zero-add t))
