-- The entry of the table, at the round of step i.
use Rattle.words.proofs.Rotations.{rotation_read}
use Rattle.step_numbers.proofs.rotation.Goals as goal

pub returns : goal.returns
returns c =
    rotation_read c.args.i c.args.k c.rotations-q.ensures c.round_of.ensures.0
