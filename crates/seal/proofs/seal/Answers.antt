-- Where both calls succeed, what was read and what was printed make the listing.
use Rattle.std.proofs.Common.{arith, ◌≤◌, ◌<◌, length, take}
use Rattle.std.proofs.lemmas.Grind.{common_steps}
use Rattle.std.specs.Io.KnownBytes.{Appends, Consumes, IsAtEnd}
use Rattle.listing.specs.Listing.{listing}
use Rattle.seal.proofs.Reading.{listed}
use Rattle.seal.proofs.seal.Goals as goal

pub returns : goal.returns
returns g c =
    let size = c.in_ok-size.size in
    let tape = c.read_tape.new.tape in
    let old = g.R.Read.remaining c.args.input.now in
    let new = g.R.Read.remaining c.read_tape.new.input in
    let out = Appends (g.W.Write.contents c.args.output.now) (g.W.Write.contents c.print.new.out) in
    let within : size ≤ length tape = grind (arith, common_steps) in
    let bytes : Consumes old new (take size tape) = grind (arith, common_steps) in
    let end : size < length tape → IsAtEnd new = grind (arith, common_steps) in
    let printed : out (listing (take size tape)) = grind (arith, common_steps) in
    listed size tape (omega arith) within out old new bytes end printed
