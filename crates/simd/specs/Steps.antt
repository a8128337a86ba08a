-- The Feistel steps and the compression (sections 1.1.3, 1.2.3 and 1.2.4).
use Rattle.std.specs.Prelude.{Bool, cond, List, [], ◌∷◌, ◌++◌, ℕ, zero, suc, ◌+◌, ◌*◌, ◌-◌, ◌/◌, ◌%◌, ◌^◌, min, ltb, get_or, take, drop}
use Rattle.std.specs.Int.Bits.{bit_and, bit_or, bit_xor}
use Rattle.simd.specs.Basic.{Family, rows, state_words, table, words_of}
use Rattle.simd.specs.Constants.{rotations, exchange}
use Rattle.simd.specs.Expansion.{expanded}

-- Sum of words, rotation to the left, and the two Boolean functions.
unfoldable pub add : ℕ → ℕ → ℕ
add x y = (x + y) % 2 ^ 32

unfoldable pub rotl : ℕ → ℕ → ℕ
rotl s x = x * 2 ^ s % 2 ^ 32 + x / 2 ^ (32 - s)

unfoldable pub IF : ℕ → ℕ → ℕ → ℕ
IF a b c = bit_or (bit_and a b) (bit_and (2 ^ 32 - 1 - a) c)

unfoldable pub MAJ : ℕ → ℕ → ℕ → ℕ
MAJ a b c = bit_or (bit_or (bit_and a b) (bit_and a c)) (bit_and b c)

-- A state: four columns of R words each.
pub record State : Type 0 where
  pub a : List ℕ
  pub b : List ℕ
  pub c : List ℕ
  pub d : List ℕ

-- The published order of its words: A0, A1, .., B0, .., D(R-1).
unfoldable pub words : State → List ℕ
words s = s.a ++ s.b ++ s.c ++ s.d

unfoldable pub state : Family → List ℕ → State
state f ws =
    record {
      a = take (rows f) ws;
      b = take (rows f) (drop (rows f) ws);
      c = take (rows f) (drop (2 * rows f) ws);
      d = take (rows f) (drop (3 * rows f) ws);
    }

-- What step i, of 36, is made of. A round is 8 steps with its own quadruple of rotations; steps 32 to 35 go on with the last.
unfoldable pub rotation : ℕ → ℕ → ℕ
rotation i k = get_or (get_or rotations (min (i / 8) 3) []) (k % 4) 0

unfoldable pub choose : ℕ → ℕ → ℕ → ℕ → ℕ
choose i a b c = cond (ltb (i % 8) 4) (IF a b c) (MAJ a b c)

-- The row that row j gets its rotated A from: j xor a number that goes by i.
unfoldable pub partner : Family → ℕ → ℕ → ℕ
partner f i j = bit_xor j (exchange f i)

-- Step i on a state, with one row of R words.
unfoldable pub step : Family → ℕ → List ℕ → State → State
step f i w s =
    record {
      a =
          table (rows f)
          (λ j.
          add
          (rotl (rotation i (i + 1))
          (add (add (get_or s.d j 0) (get_or w j 0)) (choose i (get_or s.a j 0) (get_or s.b j 0) (get_or s.c j 0))))
          (rotl (rotation i i) (get_or s.a (partner f i j) 0)));
      b = table (rows f) (λ j. rotl (rotation i i) (get_or s.a j 0));
      c = s.b;
      d = s.c;
    }

-- Steps 0 to n - 1, step i with row i of w.
unfoldable pub steps : Family → List (List ℕ) → ℕ → State → State
steps f w zero s = s
steps f w (suc i) s = step f i (get_or w i []) (steps f w i s)

-- Old state xor block, both as words.
unfoldable pub mixed : Family → List ℕ → List ℕ → List ℕ
mixed f old bytes = table (state_words f) (λ i. bit_xor (get_or old i 0) (get_or (words_of (state_words f) bytes) i 0))

-- A compression: 32 steps with the expanded block, from the old state xor the block, and then steps 32 to 35 with the old state's columns.
unfoldable pub compression : Family → Bool → List ℕ → List ℕ → List ℕ
compression f last old bytes =
    let h = state f old in
    words (steps f (expanded f last bytes ++ (h.a ∷ h.b ∷ h.c ∷ h.d ∷ [])) 36 (state f (mixed f old bytes)))
