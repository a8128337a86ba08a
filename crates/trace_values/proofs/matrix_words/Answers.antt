-- The matrix of the values of the width's family, into the front of the output.
use Rattle.std.proofs.Common.{◌++◌, take, drop, ap, sym, ◌∙◌, rules}
use Rattle.std.proofs.lemmas.List.{length-take-le}
use Rattle.simd.specs.Basic.{small, large}
use Rattle.expansion.proofs.Refused.{family_small, family_large}
use Rattle.trace_values.specs.Values.{matrix_words}
use Rattle.trace_values.proofs.Shape.{sized, put, front, whole, values_fit, z_rows, z_words}
use Rattle.trace_values.proofs.matrix_words.Goals as goal

pub slice_bounds-matrix_small-end : goal.slice_bounds-matrix_small-end
slice_bounds-matrix_small-end c = sym (length-take-le 128 c.values.new.out (search rules))

pub matrix_small-requires : goal.matrix_small-requires
matrix_small-requires c =
    let a = c.args in
    values_fit small _ _ (front a.width small (family_small a.width c.if-width-le256.true) a.last a.block.now _ c.values.ensures)

pub put-requires : goal.put-requires
put-requires c =
    let a = c.args in
    let room = (sized a.width small (family_small a.width c.if-width-le256.true) c.requires).1 in
    (search rules, (search rules, (z_rows small a.last a.block.now (take 128 c.values.new.out) c.matrix_small.ensures, room)))

pub returns-then-width-le256 : goal.returns-then-width-le256
returns-then-width-le256 c =
    let a = c.args in
    let family = family_small a.width c.if-width-le256.true in
    put a.width small family (λ f. matrix_words f a.last a.block.now) a.out.now
    (c.put.ensures
    ∙ ap (λ l. l ++ drop 128 a.out.now)
    (z_words small a.last a.block.now (take 128 c.values.new.out) c.matrix_small.ensures (front a.width small family a.last a.block.now _ c.values.ensures)))

pub matrix_large-requires : goal.matrix_large-requires
matrix_large-requires c =
    let a = c.args in
    values_fit large _ _ (whole a.width large (family_large a.width c.if-width-le256.false) a.last a.block.now _ c.values.ensures (search rules))

pub put-requires-2 : goal.put-requires-2
put-requires-2 c =
    let a = c.args in
    let room = (sized a.width large (family_large a.width c.if-width-le256.false) c.requires).1 in
    (search rules, (search rules, (z_rows large a.last a.block.now c.values.new.out c.matrix_large.ensures, room)))

pub returns : goal.returns
returns c =
    let a = c.args in
    let family = family_large a.width c.if-width-le256.false in
    put a.width large family (λ f. matrix_words f a.last a.block.now) a.out.now
    (c.put-2.ensures
    ∙ ap (λ l. l ++ drop 256 a.out.now)
    (z_words large a.last a.block.now c.values.new.out c.matrix_large.ensures (whole a.width large family a.last a.block.now _ c.values.ensures (search rules))))
