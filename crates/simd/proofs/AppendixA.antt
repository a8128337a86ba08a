-- Appendix A of the public document: the digests of its three messages at each width, as theorems about `digest`. Each is computed, in the form of `Horner`.
use mathlib.Core.Bool.{Bool, true, false, ◌&&◌}
use mathlib.Core.List.{List, [], ◌∷◌}
use mathlib.Core.Path.{◌≡◌, refl, ap₂, ◌∙◌}
use Prim.Native.Nat.{ℕ, ◌+◌, ◌*◌, ◌-◌, ◌/◌, ◌%◌, ◌^◌}
use lib.Dec.{T, eqb, eqb→eq}
use lib.ListN.{replicate}
use Rattle.simd.specs.Basic.{digest_bytes, table}
use Rattle.simd.specs.Message.{message}
use Rattle.simd.specs.Hash.{digest}
use Rattle.simd.proofs.Horner.{computing, fast_digest, digest_fast}

-- The messages beside the empty one: the n bytes 00 01 02 .., and n bits that are 1.
unfoldable pub counting : ℕ → List ℕ
counting n = message (table n (λ j. j)) (8 * n)

unfoldable pub ones : ℕ → List ℕ
ones n = message (replicate (n / 8 + 1) 0xff) n

-- The n bytes of a digest that is printed as one hexadecimal number.
unfoldable pub hex : ℕ → ℕ → List ℕ
hex n x = table n (λ j. x / 256 ^ (n - 1 - j) % 256)

-- A row is a message and its printed digest. Rows are true at a width if each message has its digest.
abbrev pub Row : Type 0
Row = List ℕ × ℕ

abbrev pub Digests : ℕ → List Row → Type 0
Digests width [] = Unit {0}
Digests width (r ∷ rs) = (digest width r.0 ≡ hex (digest_bytes width) r.1) × Digests width rs

unfoldable pub simd224 : List Row
simd224 =
    ([], 0x43e1d53656d7b85d10d5499e28afdef90bb497730d2853c8609b534b)
    ∷ (counting 64, 0xcbb4f8a9304b4b043093a94b7059ee36e43ff94a21dc46611f1a7769)
    ∷ (ones 700, 0x19499a44b7541c7f27b867b207f87269d7351d2cbb405f7c0cb491aa)
    ∷ []

unfoldable pub simd256 : List Row
simd256 =
    ([], 0x8029e81e7320e13ed9001dc3d8021fec695b7a25cd43ad805260181c35fcaea8)
    ∷ (counting 64, 0x5bebdb816cd3e6c8c2b5a42867a6f41570c4b917f1d3b15aabc17f24679e6acd)
    ∷ (ones 700, 0xe80b4eeb8a370e6ca918e7810400441f6dd0da1eb4559cade791c314f82d524a)
    ∷ []

unfoldable pub simd384 : List Row
simd384 =
    ([], 0x5fdd62778fc213221890ad3bac742a4af107ce2692d6112e795b54b25dcd5e0f4bf3ef1b770ab34b38f074a5e0ecfcb5)
    ∷ (counting 128, 0x5e02e645868ef837f535f44609a268a0a146476584d50f83683ce3e7cb355caaf7e8eb81cb28db3ccf40d25313f16950)
    ∷ (ones 1079, 0xe999b35b42301eca3a9c648fef39635b13059b2ac3be16f5c9372d3e773a716f1b2a23b784f3c1e231e42d87d2c950f3)
    ∷ []

unfoldable pub simd512 : List Row
simd512 =
    ([], 0x51a5af7e243cd9a5989f7792c880c4c3168c3d60c4518725fe5757d1f7a69c6366977eaba7905ce2da5d7cfd07773725f0935b55f3efb954996689a49b6d29e0)
    ∷ (counting 128, 0x8851ad0a57426b4af57af3294706c0448fa6accf24683fc239871be58ca913fbee53e35c1dedd88016ebd131f2eb0761e97a3048de6e696787fd5f54981d6f2c)
    ∷ (ones 1079, 0xc060fa9aae2414715a3a27c5df22dbd41469e3d09056b093861f0f6b9bdc311a24ac743811e88358dc69094ad444036bbbf7708ed8bdeaf1e8ed871dfb79c218)
    ∷ []

-- The test that is computed. It stops at a row that fails.
same : List ℕ → List ℕ → Bool
same [] [] = true
same [] (y ∷ ys) = false
same (x ∷ xs) [] = false
same (x ∷ xs) (y ∷ ys) = eqb x y && same xs ys

test : ℕ → List Row → Bool
test width [] = true
test width (r ∷ rs) =
    let rest = test width rs in
    same (fast_digest width r.0) (hex (digest_bytes width) r.1) && rest

both : (a b : Bool) → T (a && b) → T a × T b
both true b t = (tt, t)
both false b t = absurd t

equal : (xs ys : List ℕ) → T (same xs ys) → xs ≡ ys
unfolding same
equal [] [] t = refl
equal [] (y ∷ ys) t = absurd t
equal (x ∷ xs) [] t = absurd t
equal (x ∷ xs) (y ∷ ys) t =
    let p = both (eqb x y) (same xs ys) t in
    ap₂ (λ (z : ℕ) zs. z ∷ zs) (eqb→eq x y p.0) (equal xs ys p.1)

by_test : (width : ℕ) (rs : List Row) → T (test width rs) → Digests width rs
unfolding test
by_test width [] t = tt
by_test width (r ∷ rs) t =
    let x = hex (digest_bytes width) r.1 in
    let p = both (same (fast_digest width r.0) x) (test width rs) t in
    (digest_fast width r.0 ∙ equal (fast_digest width r.0) x p.0, by_test width rs p.1)

-- Each test names the one before it, so that none is computed once one is refused.
after : {A B : Type 0} → A → B → B
after a b = b

test_224 : T (test 224 simd224)
unfolding computing counting ones hex same test simd224
test_224 = tt

test_256 : T (test 256 simd256)
unfolding computing counting ones hex same test simd256
test_256 = after test_224 tt

test_384 : T (test 384 simd384)
unfolding computing counting ones hex same test simd384
test_384 = after test_256 tt

test_512 : T (test 512 simd512)
unfolding computing counting ones hex same test simd512
test_512 = after test_384 tt

pub appendix_a : Digests 224 simd224 × Digests 256 simd256 × Digests 384 simd384 × Digests 512 simd512
appendix_a = (by_test 224 simd224 test_224, by_test 256 simd256 test_256, by_test 384 simd384 test_384, by_test 512 simd512 test_512)
