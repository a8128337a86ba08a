-- The constants: roots, order P, rotations, row exchanges and starting states (sections 1.2.2, 1.2.3 and 1.2.5).
use Rattle.std.specs.Prelude.{cond, List, [], ◌∷◌, ℕ, ◌%◌, eqb, get_or}
use Rattle.simd.specs.Basic.{Family, small, large}

-- w, a root of unity of order 32 R modulo 257. 41 squared is 139.
abbrev pub root : Family → ℕ
root small = 139
root large = 41

-- P: expanded row i is row P(i) of Z.
unfoldable pub order : List ℕ
order =
    4 ∷ 6 ∷ 0 ∷ 2 ∷ 7 ∷ 5 ∷ 3 ∷ 1 ∷ 15 ∷ 11 ∷ 12 ∷ 8 ∷ 9 ∷ 13 ∷ 10 ∷ 14 ∷ 17 ∷ 18 ∷ 23 ∷ 20 ∷ 22 ∷ 21 ∷ 16 ∷ 19 ∷ 30 ∷ 24 ∷ 25 ∷ 31 ∷ 27 ∷ 29 ∷ 28 ∷ 26 ∷ []

-- The quadruple of rotations of each round.
unfoldable pub rotations : List (List ℕ)
rotations =
    (3 ∷ 23 ∷ 17 ∷ 27 ∷ []) ∷ (28 ∷ 19 ∷ 22 ∷ 7 ∷ []) ∷ (29 ∷ 9 ∷ 15 ∷ 5 ∷ []) ∷ (4 ∷ 13 ∷ 10 ∷ 25 ∷ []) ∷ []

-- The numbers by which rows are exchanged: step i takes entry i mod 3 or i mod 7.
unfoldable pub small_exchanges : List ℕ
small_exchanges = 1 ∷ 2 ∷ 3 ∷ []

unfoldable pub large_exchanges : List ℕ
large_exchanges = 1 ∷ 6 ∷ 2 ∷ 3 ∷ 5 ∷ 7 ∷ 4 ∷ []

unfoldable pub exchange : Family → ℕ → ℕ
exchange small i = get_or small_exchanges (i % 3) 0
exchange large i = get_or large_exchanges (i % 7) 0

-- The starting state of each width (the initial value or IV of table 1.2), in the published order of its words.
unfoldable pub start224 : List ℕ
start224 =
    0x33586e9f ∷ 0x12fff033 ∷ 0xb2d9f64d ∷ 0x6f8fea53 ∷
    0xde943106 ∷ 0x2742e439 ∷ 0x4fbab5ac ∷ 0x62b9ff96 ∷
    0x22e7b0af ∷ 0xc862b3a8 ∷ 0x33e00cdc ∷ 0x236b86a6 ∷
    0xf64ae77c ∷ 0xfa373b76 ∷ 0x7dc1ee5b ∷ 0x7fb29ce8 ∷
    []

unfoldable pub start256 : List ℕ
start256 =
    0x4d567983 ∷ 0x07190ba9 ∷ 0x8474577b ∷ 0x39d726e9 ∷
    0xaaf3d925 ∷ 0x3ee20b03 ∷ 0xafd5e751 ∷ 0xc96006d3 ∷
    0xc2c2ba14 ∷ 0x49b3bcb4 ∷ 0xf67caf46 ∷ 0x668626c9 ∷
    0xe2eaa8d2 ∷ 0x1ff47833 ∷ 0xd0c661a5 ∷ 0x55693de1 ∷
    []

unfoldable pub start384 : List ℕ
start384 =
    0x8a36eebc ∷ 0x94a3bd90 ∷ 0xd1537b83 ∷ 0xb25b070b ∷
    0xf463f1b5 ∷ 0xb6f81e20 ∷ 0x0055c339 ∷ 0xb4d144d1 ∷
    0x7360ca61 ∷ 0x18361a03 ∷ 0x17dcb4b9 ∷ 0x3414c45a ∷
    0xa699a9d2 ∷ 0xe39e9664 ∷ 0x468bfe77 ∷ 0x51d062f8 ∷
    0xb9e3bfe8 ∷ 0x63bece2a ∷ 0x8fe506b9 ∷ 0xf8cc4ac2 ∷
    0x7ae11542 ∷ 0xb1aadda1 ∷ 0x64b06794 ∷ 0x28d2f462 ∷
    0xe64071ec ∷ 0x1deb91a8 ∷ 0x8ac8db23 ∷ 0x3f782ab5 ∷
    0x039b5cb8 ∷ 0x71ddd962 ∷ 0xfade2cea ∷ 0x1416df71 ∷
    []

unfoldable pub start512 : List ℕ
start512 =
    0x0ba16b95 ∷ 0x72f999ad ∷ 0x9fecc2ae ∷ 0xba3264fc ∷
    0x5e894929 ∷ 0x8e9f30e5 ∷ 0x2f1daa37 ∷ 0xf0f2c558 ∷
    0xac506643 ∷ 0xa90635a5 ∷ 0xe25b878b ∷ 0xaab7878f ∷
    0x88817f7a ∷ 0x0a02892b ∷ 0x559a7550 ∷ 0x598f657e ∷
    0x7eef60a1 ∷ 0x6b70e3e8 ∷ 0x9c1714d1 ∷ 0xb958e2a8 ∷
    0xab02675e ∷ 0xed1c014f ∷ 0xcd8d65bb ∷ 0xfdb7a257 ∷
    0x09254899 ∷ 0xd699c7bc ∷ 0x9019b6dc ∷ 0x2b9022e4 ∷
    0x8fa14956 ∷ 0x21bf9bd3 ∷ 0xb94d0943 ∷ 0x6ffddc22 ∷
    []

unfoldable pub start : ℕ → List ℕ
start width = cond (eqb width 224) start224 (cond (eqb width 256) start256 (cond (eqb width 384) start384 start512))
