-- The run starts from the states after the blocks that only the longer message has.
use Rattle.std.proofs.Common.{◌∙◌, min, arith}
use Rattle.lockstep.proofs.NumberLaws.{meeting_number}
use Rattle.lockstep.proofs.meeting.Goals as goal

pub lead-requires : goal.lead-requires
lead-requires c =
    (c.requires, c.start_state-s.ensures, omega (arith, c.min-common.ensures, c.block_count.ensures))

pub lead-requires-2 : goal.lead-requires-2
lead-requires-2 c =
    (c.requires, c.start_state-s.ensures, omega (arith, c.min-common.ensures, c.block_count-2.ensures))

pub side_by_side-met-requires : goal.side_by_side-met-requires
side_by_side-met-requires c = (
  record {
    known = c.requires;
    first = omega (arith, c.min-common.ensures, c.block_count.ensures);
    second = omega (arith, c.min-common.ensures, c.block_count-2.ensures);
  },
  record { first = c.lead.ensures; second = c.lead-2.ensures },
)

pub returns : goal.returns
returns c =
    let a = c.args.a in
    let b = c.args.b in
    let common = c.min-common.ensures ∙ (λ i. min (c.block_count.ensures i) (c.block_count-2.ensures i)) in
    meeting_number c.args.width a.bytes.now a.bits b.bytes.now b.bits c.requires a.within (omega arith) b.within (omega arith) common c.side_by_side-met.ensures.0
    c.side_by_side-met.ensures.1 c.with_length.ensures
