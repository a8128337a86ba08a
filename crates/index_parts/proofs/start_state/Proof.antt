-- The words behind the head and the states before; or, where no state is kept, the width's own.
use mathlib.Core.Path.{◌≡◌, sym, ◌∙◌}
use Prim.Native.Nat.{◌+◌, ◌*◌, ◌≤◌}
use native.Mathlib.Omega.{arith}
use borrow.Author.Rules.{rules}
use lib.ListN.{length}
use Rattle.simd.specs.Basic.{family_of}
use Rattle.tail.proofs.Sizes.{bytes_within}
use Rattle.form.specs.Head.{head_bytes}
use Rattle.checkpoints.specs.Index.{kept}
use Rattle.checkpoints.proofs.Heads.{fit}
use Rattle.index_parts.proofs.Sizes.{start_within}
use Rattle.index_parts.proofs.Starting.{none_kept, one_kept}
use Rattle.index_parts.proofs.start_state.Statement.{statement}
use Rattle.index_parts.proofs.start_state.Tie as tie

returns : tie.Need-returns-then-states-eq0
returns c =
    let a = c.args in
    none_kept a.width a.count a.old.now a.block c.start_state.ensures (sym c.kept-states.ensures ∙ c.if-states-eq0.true)

-- Where a state is kept: the function's start, and the place of the state in the index.
some : (c : tie.After-block_bytes-size) → kept (family_of c.args.width) c.args.count ≡ 0 → ⊥
some c none = c.if-states-eq0.false (c.kept-states.ensures ∙ none)

within : (c : tie.After-block_bytes-size)
    → let size = c.block_bytes-size.result in
    head_bytes + (size * c.starts_at-i.result + size) ≤ length c.args.old.now
within c =
    let a = c.args in
    omega (
      arith,
      start_within (family_of a.width) a.count a.block c.block_bytes-size.ensures c.starts_at-i.ensures (some c),
      (fit c.requires).size,
    )

mul_at : tie.Need-overflow_mul-at
mul_at c = omega (arith, within c)

add-read-words : tie.Need-overflow_add-at
add-read-words c = omega (arith, within c)

read-words-requires : tie.Need-read_words-requires
read-words-requires c κs =
    (omega (arith, c.block_bytes-size.ensures, bytes_within (family_of c.args.width)), omega (arith, within c))

returns-2 : tie.Need-returns
returns-2 c =
    let a = c.args in
    one_kept a.width a.count a.old.now a.block c.block_bytes-size.ensures c.starts_at-i.ensures (some c.before) c.read_words.ensures

pub start_state_spec : {M : Type 1} → statement M
start_state_spec =
    tie.close
    (tie.spec (λ c κs. search rules) (λ c κs. search rules) (λ c κs. search rules) returns (λ c κs. search rules) mul_at add-read-words read-words-requires returns-2)
