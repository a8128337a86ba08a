-- The library's rotation is two shifts joined by or.
use Rattle.std.proofs.Common.{◌%◌, ◌∙◌, rules}
use Rattle.laws.proofs.Words.{rotl_code}
use Rattle.words.proofs.rotate.Goals as goal

pub returns : goal.returns
returns c = c.rotate_left.ensures ∙ rotl_code (c.args.r % 32) c.args.x (search rules) c.ranges.x.fits
