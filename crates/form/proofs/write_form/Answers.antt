-- Three parts are written one behind the other, and fill the output.
use Rattle.form.proofs.Forming.{form_written}
use Rattle.form.proofs.write_form.Goals as goal

-- The place after each part, from the one after the next.
pub returns : goal.returns
returns c =
    let a = c.args in
    form_written a.width a.bits a.size a.state a.tail.now a.out.now c.requires.0 c.requires.1 c.well_formed.1.1.0.1.0.1 c.requires.2
    c.write_head.new.out c.write_words.new.out c.write_bytes.new.out
    c.write_head.ensures c.write_words.ensures c.write_bytes.ensures
