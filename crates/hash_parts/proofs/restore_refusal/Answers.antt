-- The tests in turn: two bytes, a width, a size that the width has, and no bit past the tail. Each is one of the form that the given one stands for.
use mathlib.Core.Bool.{Bool, cond}
use mathlib.Core.Path.{sym, ap, ◌∙◌}
use native.Mathlib.Omega.{arith}
use Rattle.tail.proofs.Sizes.{bytes_within}
use Rattle.form.specs.Size.{form_family, current}
use Rattle.form.proofs.Current.{current_short, current_long, at_least}
use Rattle.hash_parts.proofs.Refusing.{form_short, form_unknown, form_size, named, size_right, size_wrong, size_whole, block_whole, tail_told}
use Rattle.hash_parts.proofs.restore_refusal.Goals as goal

pub returns-then-length-lt2 : goal.returns-then-length-lt2
returns-then-length-lt2 c = let form = c.args.form.now in form_short (current form) (current_short form c.if-length-lt2.true)

pub returns-then-not-is_width : goal.returns-then-not-is_width
returns-then-not-is_width c =
    let form = c.args.form.now in
    form_unknown (current form) (current_long form c.if-length-lt2.false) _ (named form c.read_width-width.ensures)
    (sym c.is_width.ensures ∙ c.if-not-is_width.true)

pub returns-then-not-is_form_size : goal.returns-then-not-is_form_size
returns-then-not-is_form_size c =
    let form = c.args.form.now in
    let wide = c.read_width-width.ensures in
    form_size (current form) (current_long form c.if-length-lt2.false) _ (named form wide) (sym c.is_width.ensures ∙ c.if-not-is_width.false)
    (size_wrong form wide c.is_form_size.ensures c.if-not-is_form_size.true)

pub form_bits-bits-requires : goal.form_bits-bits-requires
form_bits-bits-requires c =
    let form = c.args.form.now in
    let wide = c.read_width-width.ensures in
    let block = block_whole form wide c.block_bytes-size.ensures in
    (block, omega (arith, block, bytes_within (form_family form)), size_whole form wide c.is_form_size.ensures c.if-not-is_form_size.false)

pub overflow_sub-length : goal.overflow_sub-length
overflow_sub-length c =
    let form = c.args.form.now in
    let wide = c.read_width-width.ensures in
    omega (
      arith,
      block_whole form wide c.block_bytes-size.ensures,
      at_least form (size_whole form wide c.is_form_size.ensures c.if-not-is_form_size.false),
    )

pub returns-then-not-bits_zero : goal.returns-then-not-bits_zero
returns-then-not-bits_zero c =
    let wide = c.read_width-width.ensures in
    sym (ap (λ (b : Bool). cond b 0 9) c.if-not-bits_zero.true)
    ∙ tail_told c.args.form.now wide c.block_bytes-size.ensures c.if-length-lt2.false (sym c.is_width.ensures ∙ c.if-not-is_width.false)
    (size_right c.args.form.now wide c.is_form_size.ensures c.if-not-is_form_size.false)
    c.form_bits-bits.ensures c.used_bits.ensures c.bits_zero.ensures

pub returns : goal.returns
returns c =
    let wide = c.read_width-width.ensures in
    sym (ap (λ (b : Bool). cond b 0 9) c.if-not-bits_zero.false)
    ∙ tail_told c.args.form.now wide c.block_bytes-size.ensures c.if-length-lt2.false (sym c.is_width.ensures ∙ c.if-not-is_width.false)
    (size_right c.args.form.now wide c.is_form_size.ensures c.if-not-is_form_size.false)
    c.form_bits-bits.ensures c.used_bits.ensures c.bits_zero.ensures
