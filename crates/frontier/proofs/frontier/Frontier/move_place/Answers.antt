use Rattle.frontier.proofs.Sides.{can_move, moved}
use Rattle.frontier.proofs.frontier.Frontier.move_place.Goals as goal

pub put_record-requires : goal.put_record-requires
put_record-requires c = rw c.number.ensures (can_move c.requires)

pub returns : goal.returns
returns c = moved c.requires (rw c.number.ensures at c.put_record.ensures)
