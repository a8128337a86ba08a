-- The words of a state fit in 32 bits: a starting state's by a test, a compression's because its last four steps write every word anew.
use mathlib.Core.Bool.{Bool, true, false}
use mathlib.Core.List.{List, [], ◌++◌}
use mathlib.Core.Path.{◌≡◌, sym, ap, ◌∙◌}
use Prim.Native.Nat.{ℕ, zero, suc, ◌+◌, ◌*◌, ◌-◌, ◌%◌, ◌^◌, ◌<◌, ◌≤◌}
use native.Mathlib.Nat.{mul-mod_left, mul_assoc}
use native.Mathlib.Decide.{dec_lt}
use native.Mathlib.Omega.{arith}
use lib.Dec.{T, ltb, ltb→lt, lit<}
use lib.ListN.{length, get_or, get_or-eq_default}
use lib.Pow.{pow-add}
use Rattle.simd.specs.Basic.{Family, rows, is_width}
use Rattle.simd.specs.Constants.{start, start224, start256, start384, start512}
use Rattle.simd.specs.Message.{block}
use Rattle.simd.specs.Steps.{State, rotl, words, state, rotation, step, steps, mixed, compression}
use Rattle.simd.specs.Hash.{chain}
use Rattle.laws.proofs.Bounds.{below_append, below_table}
use Rattle.laws.proofs.Table.{every, every_at}
use Rattle.laws.proofs.Words.{add_lt, rotl_lt}
use Rattle.hash.proofs.Feeding.{at_widths}

-- Every word of a list fits. Past its end stands 0.
abbrev pub Fits : List ℕ → Type 0
Fits l = (i : ℕ) → get_or l i 0 < 2 ^ 32

-- A word rotated is a word. By 32 and more, nothing of the left shift stays, and all of the right one.
shifted_out : (k x : ℕ) → 32 ≤ k → x * 2 ^ k % 2 ^ 32 ≡ 0
shifted_out k x above =
    let parts : k ≡ (k - 32) + 32 = omega arith in
    ap (λ (n : ℕ). x * 2 ^ n % 2 ^ 32) parts
    ∙ ap (λ (n : ℕ). x * n % 2 ^ 32) (pow-add 2 (k - 32) 32)
    ∙ ap (λ (n : ℕ). n % 2 ^ 32) (sym (mul_assoc x (2 ^ (k - 32)) (2 ^ 32)))
    ∙ mul-mod_left (x * 2 ^ (k - 32)) (2 ^ 32)

rotl_fits : (k x : ℕ) → x < 2 ^ 32 → rotl k x < 2 ^ 32
unfolding rotl
rotl_fits zero x fits = omega arith
rotl_fits (suc k) x fits = elim (dec_lt (suc k) 32) [
  | yes below ↦ rotl_lt (suc k) x (omega arith) below fits
  | no above ↦
      let none : 32 - suc k ≡ 0 = omega arith in
      rw (shifted_out (suc k) x (omega arith), none) (omega arith)
]

-- A step makes a new A that fits, and a new B from an A that fits. Its C and D are B and C of the state before: after four steps all fit.
module _ (f : Family) (i : ℕ) (w : List ℕ) (s : State) where
  new_a_lem : Fits (step f i w s).a
  unfolding step
  new_a_lem = below_table (2 ^ 32) (rows f) _ (λ j. add_lt _ _)

  new_b : Fits s.a → Fits (step f i w s).b
  unfolding step
  new_b fits = below_table (2 ^ 32) (rows f) _ (λ j. rotl_fits (rotation i i) (get_or s.a j 0) (fits j))

four_steps : (f : Family) (i j k l : ℕ) (u v w x : List ℕ) (s : State) → Fits (words (step f l x (step f k w (step f j v (step f i u s)))))
unfolding words step
four_steps f i j k l u v w x s =
    let s₁ = step f i u s in
    let s₂ = step f j v s₁ in
    let s₃ = step f k w s₂ in
    let s₄ = step f l x s₃ in
    let b₂ = new_b f j v s₁ (new_a_lem f i u s) in
    let b₃ = new_b f k w s₂ (new_a_lem f j v s₁) in
    let b₄ = new_b f l x s₃ (new_a_lem f k w s₂) in
    below_append (2 ^ 32) (s₄.a ++ s₄.b ++ s₄.c) s₄.d
    (below_append (2 ^ 32) (s₄.a ++ s₄.b) s₄.c (below_append (2 ^ 32) s₄.a s₄.b (new_a_lem f l x s₃) b₄) b₃)
    b₂

steps_fit : (f : Family) (w : List (List ℕ)) (n : ℕ) (s : State) → Fits (words (steps f w (suc (suc (suc (suc n)))) s))
unfolding steps
steps_fit f w n s =
    four_steps f n (suc n) (suc (suc n)) (suc (suc (suc n)))
    (get_or w n []) (get_or w (suc n) []) (get_or w (suc (suc n)) []) (get_or w (suc (suc (suc n))) []) (steps f w n s)

compression_fits : (f : Family) (last : Bool) (old bytes : List ℕ) → Fits (compression f last old bytes)
unfolding compression
compression_fits f last old bytes = steps_fit f _ 32 (state f (mixed f old bytes))

pub chain_fits : (f : Family) (from m : List ℕ) (k : ℕ) → Fits from → Fits (chain f from m k)
unfolding chain
chain_fits f from m zero fits = fits
chain_fits f from m (suc k) fits = compression_fits f false (chain f from m k) (block f m k)

-- The starting states, by a test that is computed.
tested : (l : List ℕ) → T (every (λ _ x. ltb x (2 ^ 32)) 0 l) → Fits l
tested l test i = elim (dec_lt i (length l)) [
  | yes below ↦ ltb→lt (get_or l i 0) (2 ^ 32) (every_at (λ _ x. ltb x (2 ^ 32)) 0 l test i below)
  | no past ↦ rw (get_or-eq_default l 0 {n = i} (omega arith)) (lit< tt)
]

pub start_fits : (width : ℕ) → is_width width ≡ true → Fits (start width)
unfolding start start224 start256 start384 start512
start_fits = at_widths (λ (w : ℕ). Fits (start w)) (tested start224 tt) (tested start256 tt) (tested start384 tt) (tested start512 tt)
