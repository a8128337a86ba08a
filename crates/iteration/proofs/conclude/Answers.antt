-- The length block comes behind all blocks of the message.
use Rattle.iteration.proofs.BlockLaws.{finished}
use Rattle.iteration.proofs.conclude.Goals as goal

pub returns : goal.returns
returns g c = finished g.F.Rows.family _ c.finish.ensures c.compress_message.ensures
