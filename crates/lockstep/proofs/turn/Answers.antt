-- The test reads the states and blocks before either is compressed.
use Rattle.std.proofs.Common.{ap, ◌∙◌, length}
use Rattle.bits.proofs.Zeros.{length_padded}
use Rattle.lockstep.proofs.RunLaws.{one_less, pairs_differ}
use Rattle.lockstep.proofs.turn.Goals as goal

pub block_at-x-requires : goal.block_at-x-requires
block_at-x-requires c = (c.args.a.within, c.requires.0, c.requires.1.first)

pub block_at-y-requires : goal.block_at-y-requires
block_at-y-requires c = (c.args.b.within, c.requires.0, c.requires.1.second)

pub absorb_block-requires : goal.absorb_block-requires
absorb_block-requires c = ap length c.requires.2.first ∙ length_padded 32 _

pub absorb_block-requires-2 : goal.absorb_block-requires-2
absorb_block-requires-2 c = ap length c.requires.2.second ∙ length_padded 32 _

pub returns : goal.returns
returns c =
    let p = c.args in
    let both = c.requires.1 in
    let at = c.requires.2 in
    let x = c.block_at-x.ensures in
    let y = c.block_at-y.ensures in (
      record {
        first =
            one_less p.width both.known _ _ p.a.within p.number c.requires.0 both.first at.first x c.absorb_block.ensures;
        second =
            one_less p.width both.known _ _ p.b.within p.number c.requires.0 both.second at.second y
            c.absorb_block-2.ensures;
      },
      pairs_differ p.width both.known _ _ p.number c.requires.0 at.first x at.second y c.unlike-differ.ensures,
    )
