use Rattle.frontier.proofs.Reading.{node_limits}
use Rattle.frontier.proofs.frontier.Frontier.trim_place.Goals as goal

pub is_past-requires : goal.is_past-requires
is_past-requires c = node_limits c.args.table.now c.args.place (c.requires.trimmable.prepared.ready.limits c.args.place)
